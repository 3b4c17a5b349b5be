use Rattle.std.proofs.Common.{◌≡◌, ◌++◌, length, flat_map}
use Rattle.flt_kinds.specs.Flows.{stay_flow}
use Rattle.flt_kinds.proofs.flows.stay_in.Given as goal

abbrev pub invariant-loop-variables : goal.invariant-loop-variables
invariant-loop-variables l =
    l.out.items ++ flat_map (stay_flow l.callback l.instruction l.outcome l.point) l.variables
    ≡ l.initial.out.items ++ flat_map (stay_flow l.callback l.instruction l.outcome l.point) l.initial.variables

abbrev pub decreases-loop-variables : goal.decreases-loop-variables
decreases-loop-variables l = length l.variables
