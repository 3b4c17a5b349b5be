use Rattle.std.proofs.Common.{rules}
use Rattle.flt_explain_details.specs.Stages.{IsStage}
use Rattle.flt_explain_details.proofs.MoreDetails.{one_more}
use Rattle.flt_explain_details.proofs.study.stages.Goals as goal

pub loop-step-preserved : goal.loop-step-preserved
loop-step-preserved c =
    one_more (IsStage c.args.scene.now.lines.now c.args.scene.now.graph.now c.args.callback) c.args.steps.now
    c.loop-step.all c.push.new.self
    c.loop-step.step-index _ c.in_ok-stage_of.field-0 c.loop-step-test.true (search rules) c.loop-step.invariant c.in_ok-stage_of.ensures
    c.in_ok-push.ensures.ok
