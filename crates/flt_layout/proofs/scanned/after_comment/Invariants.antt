use Rattle.std.proofs.Common.{◌≡◌, length}
use Rattle.flt_syntax.specs.Lex.{after_comment}
use Rattle.flt_layout.proofs.scanned.after_comment.Given as goal

abbrev pub invariant-loop-rest : goal.invariant-loop-rest
invariant-loop-rest l = after_comment l.rest ≡ after_comment l.fn.rest

abbrev pub decreases-loop-rest : goal.decreases-loop-rest
decreases-loop-rest l = length l.rest
