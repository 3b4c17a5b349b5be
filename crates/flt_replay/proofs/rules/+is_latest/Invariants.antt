-- The locks get fewer.
use Rattle.std.proofs.Common.{length}
use Rattle.flt_replay.proofs.rules.+is_latest.Given as goal

abbrev pub decreases-is_latest : goal.decreases-is_latest
decreases-is_latest l = length l.locks.now
