use Rattle.std.proofs.Common.{◌≡◌, length, All}
use Rattle.flt_pool.specs.Hands.{newcomer}
use Rattle.flt_pool.specs.Seats.{IsPutSeatOf, put_hand}
use Rattle.flt_pool.specs.declared.seats.PutSeat.{PutSeat}
use Rattle.flt_pool.proofs.opening.put_seats.Given as goal

abbrev pub invariant-loop : goal.invariant-loop
invariant-loop l =
    (length l.seats.items ≡ l.counter)
    × All (λ (seat : PutSeat). IsPutSeatOf l.pool seat × (put_hand seat ≡ newcomer)) l.seats.items
