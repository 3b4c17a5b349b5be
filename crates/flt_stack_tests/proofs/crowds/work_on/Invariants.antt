use Rattle.flt_stack_threads.specs.Places.{IsWorkerOf}
use Rattle.flt_stack_tests.proofs.crowds.work_on.Given as goal

abbrev pub invariant-loop : goal.invariant-loop
invariant-loop g l = IsWorkerOf l.stack.exchange l.seat.place
