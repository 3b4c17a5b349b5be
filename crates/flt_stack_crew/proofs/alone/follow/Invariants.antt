use Rattle.std.proofs.Common.{◌≡◌, length, take}
use Rattle.flt_stack_crew.specs.Following.{IsSum}
use Rattle.flt_stack_crew.specs.Giving.{AreMade}
use Rattle.flt_stack_threads.specs.Places.{IsCallerOf, IsWorkerOf, asked_by}
use Rattle.flt_stack_crew.proofs.alone.follow.Given as goal

abbrev pub invariant-loop-command : goal.invariant-loop-command
invariant-loop-command g l = record {
  caller : IsCallerOf l.stack.exchange l.caller.place;
  worker : IsWorkerOf l.stack.exchange l.worker.place;
  given : AreMade (take l.command-index l.commands) l.caller.receipts.list.items (asked_by l.caller.place).asked;
  callers : l.caller.receipts.share.amount ≡ length l.caller.receipts.list.items;
  others : IsSum l.made l.worker.share.amount;
  callers_parts : l.caller.receipts.share.parts ≡ l.fn.caller.receipts.share.parts;
  others_parts : l.worker.share.parts ≡ l.fn.worker.share.parts;
}
