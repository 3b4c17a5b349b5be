use Rattle.std.proofs.Common.{◌≡◌, drop}
use Rattle.flt_explain_flows.specs.FindingRun as spec
use Rattle.flt_explain_flows.proofs.finding_run.run_of.Given as goal

abbrev pub invariant-loop-run : goal.invariant-loop-run
invariant-loop-run l = spec.run_of (drop l.run-index l.runs) l.source l.finding ≡ spec.run_of l.runs l.source l.finding
