use Rattle.std.proofs.Common.{length}
use Rattle.flt_replay_world.proofs.callbacks.+post_body.Given as goal

abbrev pub decreases-post_body : goal.decreases-post_body
decreases-post_body l = length l.callbacks.now
