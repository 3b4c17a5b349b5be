use Rattle.std.proofs.Common.{length}
use Rattle.flt_explain_advice.proofs.advice.locks.+under_last.Given as goal

abbrev pub decreases-under_last : goal.decreases-under_last
decreases-under_last l = length l.locks.now
