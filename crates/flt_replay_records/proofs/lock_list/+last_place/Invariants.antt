use Rattle.std.proofs.Common.{length}
use Rattle.flt_replay_records.proofs.lock_list.+last_place.Given as goal

abbrev pub decreases-last_place : goal.decreases-last_place
decreases-last_place l = length l.locks.now
