use Rattle.std.proofs.Common.{length}
use Rattle.flt_abs.proofs.locks.+same_locks.Given as goal

abbrev pub decreases-same_locks : goal.decreases-same_locks
decreases-same_locks l = length l.a.now
