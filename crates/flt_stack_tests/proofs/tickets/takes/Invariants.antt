use Rattle.flt_pool.specs.Seats.{IsTakeSeatOf}
use Rattle.flt_stack_tests.proofs.tickets.takes.Given as goal

abbrev pub invariant-loop-ticket : goal.invariant-loop-ticket
invariant-loop-ticket g l = IsTakeSeatOf l.pool l.worker
