use Rattle.std.proofs.Common.{◌≡◌, ◌+◌, length, map, All}
use Rattle.flt_stack_threads.specs.Places.{IsFreshSeat, worker_tickets}
use Rattle.flt_stack_threads.specs.declared.places.WorkerPlace.{WorkerPlace}
use Rattle.flt_stack_threads.proofs.joining.worker_places.Given as goal

abbrev pub invariant-places : goal.invariant-places
invariant-places l = record {
  tickets : map worker_tickets l.places.items ≡ l.yielded;
  fresh : All (λ (place : WorkerPlace). IsFreshSeat l.pads place.requests) l.places.items;
  rest : All (IsFreshSeat l.pads) l.seats.items;
  left : length l.seats.items + length l.yielded ≡ length l.initial.seats.items;
}
