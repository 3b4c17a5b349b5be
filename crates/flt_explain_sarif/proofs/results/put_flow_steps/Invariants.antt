use Rattle.std.proofs.Common.{flat_map, take}
use Rattle.flt_explain_parts.specs.Members.{Added}
use Rattle.flt_explain_parts.specs.Points.{regions}
use Rattle.flt_explain_sarif.specs.Results.{flow_step}
use Rattle.flt_explain_sarif.proofs.results.put_flow_steps.Given as goal

abbrev pub invariant-loop-stage : goal.invariant-loop-stage
invariant-loop-stage l = Added l.initial.writer l.writer (flat_map (flow_step l.file (regions l.points)) (take l.stage-index l.stages))
