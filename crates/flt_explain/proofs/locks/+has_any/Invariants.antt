use Rattle.std.proofs.Common.{length}
use Rattle.flt_explain.proofs.locks.+has_any.Given as goal

abbrev pub decreases-has_any : goal.decreases-has_any
decreases-has_any l = length l.flags.now
