use Rattle.std.proofs.Common.{◌≡◌, drop}
use Rattle.flt_explain_origins.specs.Origins as spec
use Rattle.flt_explain_origins.proofs.origin.leads.Given as goal

abbrev pub invariant-loop-step : goal.invariant-loop-step
invariant-loop-step l =
    spec.leads l.graph l.callback l.fact l.at (drop l.step-index l.steps) ≡ spec.leads l.graph l.callback l.fact l.fn.from l.steps
