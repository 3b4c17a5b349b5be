use Rattle.std.proofs.Common.{◌≡◌, ◌+◌, length, map, All}
use Rattle.flt_stack_threads.specs.Places.{IsFreshSeat, caller_tickets}
use Rattle.flt_stack_threads.specs.declared.places.CallerPlace.{CallerPlace}
use Rattle.flt_stack_threads.proofs.joining.caller_places.Given as goal

abbrev pub invariant-places : goal.invariant-places
invariant-places l = record {
  tickets : map caller_tickets l.places.items ≡ l.yielded;
  fresh : All (λ (place : CallerPlace). IsFreshSeat l.pads place.requests) l.places.items;
  rest : All (IsFreshSeat l.pads) l.seats.items;
  left : length l.seats.items + length l.yielded ≡ length l.initial.seats.items;
}
