use Rattle.std.proofs.Common.{◌≡◌, length}
use Rattle.flt_explain_warnings.specs.Comment as spec
use Rattle.flt_explain_warnings.proofs.comment.after_blanks.Given as goal

abbrev pub invariant-loop-rest : goal.invariant-loop-rest
invariant-loop-rest l = spec.after_blanks l.rest ≡ spec.after_blanks l.initial.rest

abbrev pub decreases-loop-rest : goal.decreases-loop-rest
decreases-loop-rest l = length l.rest
