use Rattle.std.proofs.Common.{◌≡◌, drop}
use Rattle.flt_explain_origins.specs.Ways as spec
use Rattle.flt_explain_ways.proofs.ends.end_of.Given as goal

abbrev pub invariant-loop-step : goal.invariant-loop-step
invariant-loop-step l =
    spec.end_of l.graph l.callback l.clean l.moment.point l.moment.situation (drop l.step-index l.steps)
    ≡ spec.end_of l.graph l.callback l.clean l.fn.from.point l.fn.from.situation l.steps
