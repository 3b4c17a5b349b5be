use Rattle.std.proofs.Common.{length}
use Rattle.flt_replay_world.proofs.callbacks.+routine_of.Given as goal

abbrev pub decreases-routine_of : goal.decreases-routine_of
decreases-routine_of l = length l.callbacks.now
