use Rattle.flt_replay_course.proofs.Leading.{seen_ok}
use Rattle.flt_replay_course.proofs.entries.step_seen.Goals as goal

pub returns : goal.returns
returns c = seen_ok c.step_seen.result c.args.stack.now c.args.world.now c.args.a c.args.grant c.step_seen.new.world _ _ c.step_seen.ensures
