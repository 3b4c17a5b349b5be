use Rattle.std.proofs.Common.{length}
use Rattle.flt_replay_world.proofs.callbacks.+level_with.Given as goal

abbrev pub decreases-level_with : goal.decreases-level_with
decreases-level_with l = length l.locks.now
