use Rattle.flt_layout.proofs.Trimmed.{IsTrimmed}
use Rattle.flt_layout.proofs.scanned.comment.Given as goal

abbrev pub invariant-loop-end : goal.invariant-loop-end
invariant-loop-end l = IsTrimmed l.z l.end

abbrev pub decreases-loop-end : goal.decreases-loop-end
decreases-loop-end l = l.end
