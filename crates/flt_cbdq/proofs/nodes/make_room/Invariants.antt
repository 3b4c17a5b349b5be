use Rattle.std.proofs.Common.{◌≡◌, ℕ, ◌+◌, ◌-◌, length}
use Rattle.flt_cbdq.specs.Kept.{entry_at}
use Rattle.flt_cbdq.proofs.nodes.make_room.Given as goal

abbrev pub invariant-loop-node : goal.invariant-loop-node
invariant-loop-node l = record {
  same : (other : ℕ) → entry_at l.entries.items other ≡ entry_at l.fn.entries.items other;
  granted : l.heap ≡ l.fn.heap;
}

abbrev pub decreases-loop-node : goal.decreases-loop-node
decreases-loop-node l = (l.node + 1) - length l.entries.items
