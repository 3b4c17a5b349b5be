use Rattle.std.proofs.Common.{[]}
use Rattle.flt_model.specs.World.{activation_at}
use Rattle.flt_replay_world.specs.Happening.{later}
use Rattle.flt_explain_flows.proofs.SeenSteps.{not_made, was_made}
use Rattle.flt_explain_flows.proofs.running.go_seen.Goals as goal

pub returns-then-not-branch : goal.returns-then-not-branch
returns-then-not-branch c =
    not_made c.args.stage.now.stack.now c.args.activation c.args.grant c.args.end c.args.world.now _ _ _ c.in_ok-next.ensures.same
    (c.in_ok-step_seen.ensures []) c.if-not-branch.true

pub returns : goal.returns
returns c =
    was_made c.args.stage.now.stack.now c.args.activation c.args.grant c.args.end c.args.world.now _ _ _ _ c.in_ok-next.ensures.same
    (c.in_ok-step_seen.ensures []) c.if-not-branch.false
    (c.next_span-span.ensures (activation_at c.args.world.now c.args.activation).rest (later c.args.world.now c.args.activation)
    c.in_ok-next.ensures.first)
