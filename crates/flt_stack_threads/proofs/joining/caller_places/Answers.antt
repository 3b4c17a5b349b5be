use Rattle.std.proofs.Common.{◌≡◌, ◌∷◌, [], ◌++◌, arith}
use Rattle.std.proofs.lemmas.List.{length_push}
use Rattle.flt_stack_threads.specs.Places.{IsFreshSeat, caller_tickets}
use Rattle.flt_stack_threads.specs.declared.places.CallerPlace.{CallerPlace}
use Rattle.flt_stack_threads.proofs.TakenFirst.{all_less, all_more, longer, map_more}
use Rattle.flt_stack_threads.proofs.joining.caller_places.Goals as goal

pub places-preserved : goal.places-preserved
places-preserved c =
    let i = c.places.invariant in
    let popped : c.places.seats.items ≡ c.pop.new.self.items ++ c.in-Some-pop.requests ∷ [] = c.in-Some-pop.ensures.items in
    let place : CallerPlace = record { tickets = c.in-Some.tickets; requests = c.in-Some-pop.requests } in
    let pushed : c.push.new.self.items ≡ c.places.places.items ++ place ∷ [] = c.in_ok-push.ensures.items in
    let less = all_less _ _ _ popped (IsFreshSeat c.args.pads.now) i.rest in
    record {
      tickets = map_more _ _ _ pushed caller_tickets c.places.yielded i.tickets;
      fresh = all_more _ _ _ pushed (λ (p : CallerPlace). IsFreshSeat c.args.pads.now p.requests) i.fresh less.1;
      rest = less.0;
      left = omega (arith, longer _ _ _ popped, length_push c.places.yielded c.in-Some.tickets, i.left);
    }
