use Rattle.std.proofs.Common.{◌≡◌, ◌≤◌, ◌++◌, length, drop}
use Rattle.flt_ops.specs.Operating.{with_cancel}
use Rattle.flt_machine.specs.Tickets.{by_altitude, entries_of}
use Rattle.flt_machine.proofs.tickets.push_cancelled.Given as goal

abbrev pub invariant-loop-filter : goal.invariant-loop-filter
invariant-loop-filter l =
    (l.filter ≤ length l.loaded.altitudes)
    × (l.next.items ≡ l.fn.next.items ++ by_altitude (entries_of l.store (with_cancel l.serial l.store)) l.filter
    (drop l.filter l.loaded.altitudes)) × (l.heap ≡ l.fn.heap)

abbrev pub decreases-loop-filter : goal.decreases-loop-filter
decreases-loop-filter l = l.filter
