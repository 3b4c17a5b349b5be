use Rattle.std.proofs.Common.{◌≡◌, length, map, All}
use Rattle.crossbeam_deque.specs.Handles.{stealer_deque, worker_deque, worker_view}
use Rattle.flt_pool.specs.Hands.{newcomer}
use Rattle.flt_pool.specs.declared.deque.Deque.{Deque}
use Rattle.flt_pool.proofs.opening.empty_deques.Given as goal

abbrev pub invariant-loop : goal.invariant-loop
invariant-loop l =
    (length l.deques.items ≡ l.counter)
    × All (λ (deque : Deque). worker_view deque.owner ≡ newcomer) l.deques.items
    × (map stealer_deque l.thieves.items ≡ map (λ (deque : Deque). worker_deque deque.owner) l.deques.items)
