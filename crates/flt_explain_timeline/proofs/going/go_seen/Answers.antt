use Rattle.std.proofs.Common.{[], ap, ◌∙◌}
use Rattle.flt_model.specs.World.{World, activation_at}
use Rattle.flt_replay_world.specs.Happening.{later}
use Rattle.flt_explain_timeline.specs.Outcomes.{sign_of}
use Rattle.flt_explain_timeline.proofs.SeenSteps.{not_made, was_made}
use Rattle.flt_explain_timeline.proofs.going.go_seen.Goals as goal

pub returns-then-not-branch : goal.returns-then-not-branch
returns-then-not-branch c =
    not_made c.args.stage.now.stack.now c.args.activation c.args.grant c.args.filter c.args.end c.args.world.now _ _ _ _
    c.in_ok-next.ensures.same
    (c.in_ok-step_seen.ensures []) c.if-not-branch.true
    (c.of_step-why.ensures _ _ (activation_at c.args.world.now c.args.activation).rest (later c.args.world.now c.args.activation)
    c.in_ok-next.ensures.first)

pub returns : goal.returns
returns c =
    was_made c.args.stage.now.stack.now c.args.activation c.args.grant c.args.filter c.args.end c.args.world.now _ _ _ _ _ _
    c.in_ok-next.ensures.same
    (c.in_ok-step_seen.ensures []) c.if-not-branch.false
    (c.next_line-line.ensures (activation_at c.args.world.now c.args.activation).rest (later c.args.world.now c.args.activation)
    c.in_ok-next.ensures.first)
    (c.sign_of-sign.ensures (activation_at c.args.world.now c.args.activation).rest (later c.args.world.now c.args.activation)
    c.in_ok-next.ensures.first
    ∙ ap (λ (w : World). sign_of w c.args.activation c.args.grant (activation_at c.args.world.now c.args.activation).rest)
    c.in_ok-next.ensures.same)
    c.outcome_of-outcome.ensures
