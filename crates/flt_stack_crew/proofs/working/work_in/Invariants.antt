use Rattle.std.proofs.Common.{◌≡◌}
use Rattle.flt_stack_crew.specs.Following.{IsSum}
use Rattle.flt_stack_threads.specs.Places.{IsWorkerOf}
use Rattle.flt_stack_crew.proofs.working.work_in.Given as goal

abbrev pub invariant-loop : goal.invariant-loop
invariant-loop g l = record {
  seat : IsWorkerOf l.stack.exchange l.seat.place;
  parts : l.seat.share.parts ≡ l.initial.seat.share.parts;
  told : IsSum l.made l.seat.share.amount;
}
