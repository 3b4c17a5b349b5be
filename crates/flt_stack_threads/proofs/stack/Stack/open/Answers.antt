use Rattle.std.proofs.Common.{All, List, sym, subst}
use Rattle.flt_machine_frames.specs.Loading.{AreLoaded}
use Rattle.flt_tree.specs.declared.filter.Filter.{Filter}
use Rattle.flt_stack_threads.specs.Places.{IsCallerOf, IsFreshCaller, IsFreshWorker, IsWorkerOf}
use Rattle.flt_stack_threads.proofs.stack.Stack.open.Goals as goal

pub returns-clause-callers : goal.returns-clause-callers
returns-clause-callers g c =
    subst (λ exchange. All (λ seat. IsCallerOf exchange seat.place × IsFreshCaller seat.place) c.in_ok-exchange.caller_seats.items)
    (sym c.on-stack.ensures.exchange) c.in_ok-exchange.ensures.callers

pub returns-clause-workers : goal.returns-clause-workers
returns-clause-workers g c =
    subst (λ exchange. All (λ seat. IsWorkerOf exchange seat.place × IsFreshWorker seat.place) c.in_ok-exchange.worker_seats.items)
    (sym c.on-stack.ensures.exchange) c.in_ok-exchange.ensures.workers

pub new-requires-clause-loaded : goal.new-requires-clause-loaded
new-requires-clause-loaded g c =
    subst (λ (trees : List Filter). AreLoaded trees c.machine.result.now) c.requires.filters c.machine.ensures
