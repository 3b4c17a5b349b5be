use Rattle.flt_stack_threads.specs.Places.{IsCallerOf}
use Rattle.flt_stack_tests.proofs.crowds.call.Given as goal

abbrev pub invariant-loop-k : goal.invariant-loop-k
invariant-loop-k g l = IsCallerOf l.stack.exchange l.seat.place
