use Rattle.std.proofs.Common.{◌≡◌, length}
use Rattle.flt_explain_origins.specs.Origins as spec
use Rattle.flt_explain_origins.specs.declared.origin.Cause.TheVariants as cause
use Rattle.flt_explain_origins.proofs.origin.last_made.Given as goal

abbrev pub invariant-loop-rest : goal.invariant-loop-rest
invariant-loop-rest l = record {
  cause : spec.last_cause l.graph l.callback l.fact l.cause l.rest ≡ spec.last_cause l.graph l.callback l.fact cause.Entry l.steps;
  since : spec.since l.graph l.callback l.fact l.later l.rest ≡ spec.since l.graph l.callback l.fact l.steps l.steps;
}

abbrev pub decreases-loop-rest : goal.decreases-loop-rest
decreases-loop-rest l = length l.rest
