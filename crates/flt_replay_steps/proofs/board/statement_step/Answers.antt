use Rattle.flt_replay_world.specs.Happening.{later}
use Rattle.flt_replay_steps.proofs.Boards.{acted, called}
use Rattle.flt_replay_steps.proofs.board.statement_step.Goals as goal

pub returns-in-Act : goal.returns-in-Act
returns-in-Act c =
    acted c.args.stack.now c.args.world.now c.act_step.new.world c.args.setup.activation c.args.setup.grant
    c.args.events.now.items c.act_step.new.events.items
    c.act_step.result c.args.setup.held
    (later c.args.world.now c.args.setup.activation) c.args.statement.now c.in-Act.field-0 c.in-Act.action c.in-Act.is c.act_step.ensures

pub returns-in_ok-plain_step-in-Call : goal.returns-in_ok-plain_step-in-Call
returns-in_ok-plain_step-in-Call c t held =
    called c.args.stack.now c.args.world.now c.plain_step.new.world c.args.setup.activation c.args.setup.grant
    c.args.events.now.items c.plain_step.new.events.items
    t (later c.args.world.now c.args.setup.activation) c.args.statement.now c.in-Call.field-0 c.in-Call.call c.in-Call.is
    (c.in_ok-plain_step-in-Call.ensures t)
