use Rattle.std.proofs.Common.{◌≡◌, ◌+◌, length, map, All}
use Rattle.flt_stack_threads.proofs.opening.worker_seats.Given as goal

abbrev pub invariant-seats : goal.invariant-seats
invariant-seats g l = record {
  places : map (λ seat. seat.place) l.seats.items ≡ l.yielded;
  left : l.all.parts + length l.yielded ≡ l.initial.all.parts;
  none : l.all.amount ≡ 0;
  fulls_left : l.fulls.parts + length l.yielded ≡ l.initial.fulls.parts;
  no_fulls : l.fulls.amount ≡ 0;
  fulls : All (λ seat. (seat.fulls.parts ≡ 1) × (seat.fulls.amount ≡ 0)) l.seats.items;
  shares : All (λ seat. (seat.share.parts ≡ 1) × (seat.share.amount ≡ 0)) l.seats.items;
}
