use Rattle.std.proofs.Common.{◌≡◌, ℕ, ◌+◌, ◌-◌, length}
use Rattle.std.proofs.Math.ListN.{get_or}
use Rattle.flt_machine.proofs.active.make_room.Given as goal

abbrev pub invariant-loop-heap : goal.invariant-loop-heap
invariant-loop-heap l = record {
  same : (other : ℕ) → get_or l.counts.items other 0 ≡ get_or l.fn.counts.items other 0;
  granted : l.heap ≡ l.fn.heap;
}

abbrev pub decreases-loop-heap : goal.decreases-loop-heap
decreases-loop-heap l = (l.filter + 1) - length l.counts.items
