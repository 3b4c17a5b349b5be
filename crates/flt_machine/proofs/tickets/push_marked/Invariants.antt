use Rattle.std.proofs.Common.{◌≡◌, ◌≤◌, ◌-◌, ◌++◌, not, ◌&&◌, false, length, map}
use Rattle.std.proofs.Math.ListN.{get_or}
use Rattle.flt_model.specs.World.{route_at}
use Rattle.flt_model.specs.declared.subject.Subject.TheVariants as subject
use Rattle.flt_machine.specs.Tickets.{passing}
use Rattle.flt_machine.proofs.tickets.push_marked.Given as goal

abbrev pub invariant-loop-serial : goal.invariant-loop-serial
invariant-loop-serial l =
    (l.serial ≤ length l.marks)
    × (l.next.items ≡ l.fn.next.items ++ map (subject.Entry l.altitude)
    (passing (λ o. get_or l.marks o false && not (route_at l.store o).cancelled) l.serial))
    × (l.heap ≡ l.fn.heap)

abbrev pub decreases-loop-serial : goal.decreases-loop-serial
decreases-loop-serial l = length l.marks - l.serial
