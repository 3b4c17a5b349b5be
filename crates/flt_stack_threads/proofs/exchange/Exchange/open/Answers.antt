use Rattle.std.proofs.Common.{◌≡◌, List, All, map, ap, sym, subst, ◌∙◌}
use Rattle.flt_pool.specs.Hands.{AreNewcomers, newcomer}
use Rattle.flt_pool.specs.Seats.{DequeId, IsPutSeatOf, IsTakeSeatOf, ReachesOthers, deque_of, hands, put_hand}
use Rattle.flt_pool.specs.declared.seats.PutSeat.{PutSeat}
use Rattle.flt_pool.specs.declared.seats.TakeSeat.{TakeSeat}
use Rattle.flt_stack_threads.specs.Places.{caller_tickets, own_deque, worker_tickets}
use Rattle.flt_stack_threads.proofs.TakenFirst.{each_of, map_of_map}
use Rattle.flt_stack_threads.proofs.exchange.Exchange.open.Goals as goal

pub returns-clause-callers : goal.returns-clause-callers
returns-clause-callers c =
    let pool = c.in_ok-pool.pool in
    let of_pool = each_of caller_tickets (λ (s : PutSeat). IsPutSeatOf pool s × (put_hand s ≡ newcomer)) _ _
    c.in_ok-callers.ensures.tickets c.in_ok-pool.ensures.callers in
    λ k d here.
    let t = of_pool k d here in
    let r = c.in_ok-callers.ensures.fresh k d here in
    ((t.0, r.0), (t.1, r.1))

pub returns-clause-workers : goal.returns-clause-workers
returns-clause-workers c =
    let pool = c.in_ok-pool.pool in
    let of_pool = each_of worker_tickets (λ (s : TakeSeat). IsTakeSeatOf pool s × AreNewcomers (hands s)) _ _
    c.in_ok-workers.ensures.tickets c.in_ok-pool.ensures.workers in
    λ k d here.
    let t = of_pool k d here in
    let r = c.in_ok-workers.ensures.fresh k d here in
    ((t.0, r.0), (t.1, r.1))

pub returns-clause-ways : goal.returns-clause-ways
returns-clause-ways c =
    let seats = c.in_ok-pool.take_seats.items in
    let places = c.in_ok-workers.workers.items in
    let same : map deque_of seats ≡ map own_deque places =
    ap (map deque_of) (sym c.in_ok-workers.ensures.tickets) ∙ sym (map_of_map worker_tickets deque_of places) in
    each_of worker_tickets (ReachesOthers (map own_deque places)) seats places c.in_ok-workers.ensures.tickets
    (subst (λ (ids : List DequeId). All (ReachesOthers ids) seats) same c.in_ok-pool.ensures.ways)
