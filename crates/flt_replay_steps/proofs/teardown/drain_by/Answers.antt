use Rattle.flt_replay_steps.proofs.Moving.{drain_happens}
use Rattle.flt_replay_steps.proofs.teardown.drain_by.Goals as goal

pub returns-in_ok-start_post-in-Some : goal.returns-in_ok-start_post-in-Some
returns-in_ok-start_post-in-Some c =
    drain_happens c.args.stack.now c.args.world.now c.take_frame.new.world c.start_post.new.world c.args.operation c.in-Some.frame
    c.args.events.now.items c.start_post.new.events.items c.args.filter
    c.in-Some.ensures.0 c.in-Some.ensures.1 c.in_ok-start_post-in-Some.ensures
