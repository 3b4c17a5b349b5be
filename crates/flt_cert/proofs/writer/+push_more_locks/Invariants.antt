use Rattle.std.proofs.Common.{length}
use Rattle.flt_cert.proofs.writer.+push_more_locks.Given as goal

abbrev pub decreases-push_more_locks : goal.decreases-push_more_locks
decreases-push_more_locks l = length l.locks.now
