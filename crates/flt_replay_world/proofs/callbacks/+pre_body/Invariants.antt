use Rattle.std.proofs.Common.{length}
use Rattle.flt_replay_world.proofs.callbacks.+pre_body.Given as goal

abbrev pub decreases-pre_body : goal.decreases-pre_body
decreases-pre_body l = length l.callbacks.now
