use Rattle.std.proofs.Common.{flat_map, take}
use Rattle.flt_explain_parts.specs.Members.{Added}
use Rattle.flt_explain_sarif.specs.RunFlow.{entry_on}
use Rattle.flt_explain_sarif.proofs.run_flow.put_each.Given as goal

abbrev pub invariant-loop-step : goal.invariant-loop-step
invariant-loop-step l =
    Added l.initial.writer l.writer (flat_map (entry_on l.files l.run l.activation) (take l.step-index l.run.flow.steps))
