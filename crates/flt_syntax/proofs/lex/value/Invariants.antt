use Rattle.std.proofs.Common.{◌≡◌, ◌<◌, ◌^◌, length}
use Rattle.flt_syntax.specs.Lex.{value_from}
use Rattle.flt_syntax.proofs.lex.value.Given as goal

abbrev pub invariant-loop-digits : goal.invariant-loop-digits
invariant-loop-digits l = (value_from l.n l.digits ≡ value_from 0 l.initial.digits) × (l.n < 2 ^ 64)

abbrev pub decreases-loop-digits : goal.decreases-loop-digits
decreases-loop-digits l = length l.digits
