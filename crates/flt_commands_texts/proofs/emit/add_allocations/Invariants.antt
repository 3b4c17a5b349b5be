use Rattle.std.proofs.Common.{◌≡◌, ◌++◌, map, take}
use Rattle.flt_commands_texts.specs.Emit as spec
use Rattle.flt_commands_texts.proofs.emit.add_allocations.Given as goal

-- the allocations so far are added
abbrev pub invariant-loop-at : goal.invariant-loop-at
invariant-loop-at l = l.out.items ≡ l.initial.out.items ++ map spec.allocation_of (take l.at-index l.spots)
