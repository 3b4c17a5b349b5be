use Rattle.std.proofs.Common.{length}
use Rattle.flt_explain_advice.proofs.advice.levels.+first_raiser.Given as goal

abbrev pub decreases-first_raiser : goal.decreases-first_raiser
decreases-first_raiser l = length l.locks.now
