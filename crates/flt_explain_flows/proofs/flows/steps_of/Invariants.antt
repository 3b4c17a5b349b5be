use Rattle.std.proofs.Common.{◌≡◌, ◌++◌, drop, length}
use Rattle.flt_explain_flows.specs.Flows.{steps_from}
use Rattle.flt_explain_flows.proofs.flows.steps_of.Given as goal

-- the steps so far, and then those of the entries that come next, are all
abbrev pub invariant-loop-one : goal.invariant-loop-one
invariant-loop-one l = record {
  so_far : l.steps ++ steps_from l.timeline l.one-index (drop l.one-index l.taken) ≡ steps_from l.timeline 0 l.taken;
  each : length l.steps ≡ l.one-index;
}
