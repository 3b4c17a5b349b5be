use Rattle.std.proofs.Common.{take}
use Rattle.flt_explain_details.specs.Stages.{AreStages}
use Rattle.flt_explain_details.proofs.study.stages.Given as goal

abbrev pub invariant-loop-step : goal.invariant-loop-step
invariant-loop-step l = AreStages l.scene.lines.now l.scene.graph.now l.callback (take l.step-index l.steps) l.all
