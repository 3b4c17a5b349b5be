use Rattle.std.proofs.Common.{◌++◌, refl}
use Rattle.flt_replay_world.specs.Happening.{later}
use Rattle.flt_replay_steps.proofs.Boards.{tested}
use Rattle.flt_replay_steps.proofs.board.if_step.Goals as goal

pub returns-in-Test : goal.returns-in-Test
returns-in-Test c =
    tested c.args.stack.now c.args.world.now c.test_step.new.world c.args.a c.args.grant c.args.events.now.items
    c.test_step.new.events.items
    c.test_step.result (c.args.to.granted.now ++ later c.args.world.now c.args.a) (c.args.to.refused.now ++ later c.args.world.now c.args.a)
    c.args.condition.now c.in-Test.test c.in-Test.is c.test_step.ensures

pub returns-in_ok-fallible_step-in-Succeeds : goal.returns-in_ok-fallible_step-in-Succeeds
returns-in_ok-fallible_step-in-Succeeds c t = rw c.in-Succeeds.is (refl, c.in_ok-fallible_step-in-Succeeds.ensures t)
