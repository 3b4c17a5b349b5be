use Rattle.std.proofs.Common.{◌≡◌, length, take}
use Rattle.flt_stack_crew.specs.Giving.{AreMade}
use Rattle.flt_stack_threads.specs.Places.{IsCallerOf, asked_by}
use Rattle.flt_stack_crew.proofs.joining.give_each.Given as goal

abbrev pub invariant-loop-command : goal.invariant-loop-command
invariant-loop-command g l = record {
  seat : IsCallerOf l.stack.exchange l.seat.place;
  given : AreMade (take l.command-index l.commands) l.seat.receipts.list.items (asked_by l.seat.place).asked;
  counted : l.seat.receipts.share.amount ≡ length l.seat.receipts.list.items;
  parts : l.seat.receipts.share.parts ≡ l.fn.seat.receipts.share.parts;
}
