use Rattle.std.proofs.Common.{◌≡◌, length}
use Rattle.flt_syntax.specs.Lex.{after_comment}
use Rattle.flt_syntax.proofs.lex.after_comment.Given as goal

abbrev pub invariant-loop-rest : goal.invariant-loop-rest
invariant-loop-rest l = after_comment l.rest ≡ after_comment l.initial.rest

abbrev pub decreases-loop-rest : goal.decreases-loop-rest
decreases-loop-rest l = length l.rest

abbrev pub invariant-loop-rest-2 : goal.invariant-loop-rest-2
invariant-loop-rest-2 l = after_comment l.rest ≡ after_comment l.fn.rest

abbrev pub decreases-loop-rest-2 : goal.decreases-loop-rest-2
decreases-loop-rest-2 l = length l.rest
