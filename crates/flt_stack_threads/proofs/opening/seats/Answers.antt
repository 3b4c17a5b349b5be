use Rattle.std.proofs.Common.{◌∙◌}
use Rattle.flt_stack_threads.specs.Places.{IsCallerOf, IsFreshCaller, IsFreshWorker, IsWorkerOf}
use Rattle.flt_stack_threads.proofs.Lists.{as_many, each_of}
use Rattle.flt_stack_threads.proofs.opening.seats.Goals as goal

pub returns-clause-counts : goal.returns-clause-counts
returns-clause-counts g c = (
  as_many c.in_ok-exchange.caller_places.items c.in_ok-caller_seats.caller_seats.items (λ seat. seat.place)
      c.in_ok-caller_seats.ensures.places ∙ c.in_ok-exchange.ensures.counts.0,
  as_many c.in_ok-exchange.worker_places.items c.in_ok-worker_seats.worker_seats.items (λ seat. seat.place)
      c.in_ok-worker_seats.ensures.places ∙ c.in_ok-exchange.ensures.counts.1,
)

pub returns-clause-callers : goal.returns-clause-callers
returns-clause-callers g c =
    each_of c.in_ok-exchange.caller_places.items c.in_ok-caller_seats.caller_seats.items (λ seat. seat.place)
    c.in_ok-caller_seats.ensures.places
    (λ place. IsCallerOf c.in_ok-exchange.exchange place × IsFreshCaller place) c.in_ok-exchange.ensures.callers

pub returns-clause-workers : goal.returns-clause-workers
returns-clause-workers g c =
    each_of c.in_ok-exchange.worker_places.items c.in_ok-worker_seats.worker_seats.items (λ seat. seat.place)
    c.in_ok-worker_seats.ensures.places
    (λ place. IsWorkerOf c.in_ok-exchange.exchange place × IsFreshWorker place) c.in_ok-exchange.ensures.workers
