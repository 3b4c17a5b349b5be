use Rattle.std.proofs.Common.{◌≡◌, ◌+◌, ◌++◌, length, map, All}
use Rattle.crossbeam_deque.specs.Handles.{stealer_deque, worker_deque, worker_view}
use Rattle.flt_pool.specs.Hands.{AreNewcomers, newcomer}
use Rattle.flt_pool.specs.Seats.{deque_of, hands, IsTakeSeatOf, ReachesOthers}
use Rattle.flt_pool.specs.declared.deque.Deque.{Deque}
use Rattle.flt_pool.specs.declared.seats.TakeSeat.{TakeSeat}
use Rattle.flt_pool.proofs.opening.take_seats.Given as goal

abbrev pub invariant-loop-deque : goal.invariant-loop-deque
invariant-loop-deque l =
    (length l.seats.items + length l.deques.items ≡ l.count)
    × All (λ (deque : Deque). worker_view deque.owner ≡ newcomer) l.deques.items
    × All (λ (seat : TakeSeat). IsTakeSeatOf l.pool seat × AreNewcomers (hands seat)) l.seats.items
    × (map stealer_deque l.thieves.items ≡ map deque_of l.seats.items ++ map (λ (deque : Deque). worker_deque deque.owner) l.deques.items)
    × All (ReachesOthers (map stealer_deque l.thieves.items)) l.seats.items

abbrev pub decreases-loop-deque : goal.decreases-loop-deque
decreases-loop-deque l = length l.deques.items
