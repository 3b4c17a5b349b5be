use Rattle.std.proofs.Common.{◌-◌, ◌∙◌, IfOk, arith, subst, sym}
use Rattle.flt_explain_timeline.proofs.LocalSteps.{all_local, one_seen}
use Rattle.flt_explain_timeline.proofs.SeenSteps.{going}
use Rattle.flt_explain_timeline.specs.Course.{Gone, IsGone}
use Rattle.flt_explain_timeline.proofs.going.go.Goals as goal

pub returns-then-made-steps : goal.returns-then-made-steps
returns-then-made-steps c =
    going c.args.stage.now.stack.now c.args.activation c.args.grant c.args.filter c.args.end c.args.steps c.args.world.now _
    c.has_ended.ensures c.if-has_ended.false (omega (arith, c.if-steps-eq0.false))
    ∙ one_seen c.args.stage.now.stack.now c.args.activation c.args.grant c.args.filter c.args.end (c.args.steps - 1) c.in_ok-made.made
    c.args.world.now
    (omega (arith, c.if-made-steps.true)) c.in_ok-made.ensures.enabled (c.in_ok-made.ensures.stops (omega (arith, c.if-made-steps.true)))

pub returns : goal.returns
returns c =
    subst (λ (g : Gone). IfOk c.go_seen.result (λ gone. IsGone gone c.go_seen.new.world g))
    (sym (going c.args.stage.now.stack.now c.args.activation c.args.grant c.args.filter c.args.end c.args.steps c.args.world.now _
    c.has_ended.ensures
    c.if-has_ended.false (omega (arith, c.if-steps-eq0.false))
    ∙ all_local c.args.stage.now.stack.now c.args.activation c.args.grant c.args.filter c.args.end (c.args.steps - 1) 0 c.args.world.now
    c.go_locally.new.world (c.in_ok-made.ensures.all (omega (arith, c.in_ok-made.ensures.within, c.if-made-steps.false)))))
    c.go_seen.ensures
