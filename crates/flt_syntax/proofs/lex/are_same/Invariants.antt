use Rattle.std.proofs.Common.{◌≡◌, length}
use Rattle.std.specs.Str.{bytes_eq}
use Rattle.flt_syntax.proofs.lex.are_same.Given as goal

abbrev pub invariant-loop-a : goal.invariant-loop-a
invariant-loop-a l = (bytes_eq l.a l.b ≡ bytes_eq l.initial.a l.initial.b) × (length l.a ≡ length l.b)

abbrev pub decreases-loop-a : goal.decreases-loop-a
decreases-loop-a l = length l.a

abbrev pub invariant-loop-a-2 : goal.invariant-loop-a-2
invariant-loop-a-2 l = (bytes_eq l.a l.b ≡ bytes_eq l.fn.a l.fn.b) × (length l.a ≡ length l.b)

abbrev pub decreases-loop-a-2 : goal.decreases-loop-a-2
decreases-loop-a-2 l = length l.a
