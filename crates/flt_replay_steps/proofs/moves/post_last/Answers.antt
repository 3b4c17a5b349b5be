use Rattle.flt_replay_steps.proofs.Moving.{post_happens}
use Rattle.flt_replay_steps.proofs.moves.post_last.Goals as goal

pub returns-in_ok-start_post-in-Some : goal.returns-in_ok-start_post-in-Some
returns-in_ok-start_post-in-Some c =
    post_happens c.args.stack.now c.args.world.now c.visit_last_frame.new.world c.start_post.new.world c.args.operation
    c.in-Some.frame c.args.events.now.items c.start_post.new.events.items
    c.in-Some.ensures.0 c.in-Some.ensures.1 c.in_ok-start_post-in-Some.ensures
