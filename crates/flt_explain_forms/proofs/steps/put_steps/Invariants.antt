use Rattle.std.proofs.Common.{flat_map, take}
use Rattle.flt_explain_parts.specs.Members.{Added}
use Rattle.flt_explain_parts.specs.Points.{regions}
use Rattle.flt_explain_forms.specs.Steps.{step}
use Rattle.flt_explain_forms.proofs.steps.put_steps.Given as goal

abbrev pub invariant-loop-stage : goal.invariant-loop-stage
invariant-loop-stage l =
    Added l.initial.writer l.writer
    (flat_map (step l.points.files l.points.home (regions l.points)) (take l.stage-index l.stages))
