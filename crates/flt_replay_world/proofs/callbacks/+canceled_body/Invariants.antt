use Rattle.std.proofs.Common.{length}
use Rattle.flt_replay_world.proofs.callbacks.+canceled_body.Given as goal

abbrev pub decreases-canceled_body : goal.decreases-canceled_body
decreases-canceled_body l = length l.callbacks.now
