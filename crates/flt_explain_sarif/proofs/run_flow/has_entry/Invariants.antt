use Rattle.std.proofs.Common.{◌≡◌, drop}
use Rattle.flt_explain_sarif.specs.RunFlow as spec
use Rattle.flt_explain_sarif.proofs.run_flow.has_entry.Given as goal

abbrev pub invariant-loop-step : goal.invariant-loop-step
invariant-loop-step l = spec.has_entry l.activation (drop l.step-index l.steps) ≡ spec.has_entry l.activation l.steps
