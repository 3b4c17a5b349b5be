use Rattle.std.proofs.Common.{◌≡◌, ◌++◌, length, map}
use Rattle.flt_kinds.specs.Flows.{flow}
use Rattle.flt_kinds.proofs.flows.lead.Given as goal

abbrev pub invariant-loop-slots : goal.invariant-loop-slots
invariant-loop-slots l = l.out.items ++ map (flow l.from) l.slots ≡ l.initial.out.items ++ map (flow l.from) l.initial.slots

abbrev pub decreases-loop-slots : goal.decreases-loop-slots
decreases-loop-slots l = length l.slots
