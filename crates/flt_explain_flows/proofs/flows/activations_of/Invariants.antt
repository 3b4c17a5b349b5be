use Rattle.std.proofs.Common.{◌≡◌, ◌++◌, drop, map}
use Rattle.flt_explain_flows.specs.Flows.{activation_of}
use Rattle.flt_explain_flows.proofs.flows.activations_of.Given as goal

-- the activations so far, and then those that come next, are all
abbrev pub invariant-loop-active : goal.invariant-loop-active
invariant-loop-active l =
    l.all ++ map (activation_of l.trees l.filters) (drop l.active-index l.actives) ≡ map (activation_of l.trees l.filters) l.actives
