use Rattle.std.proofs.Common.{◌≡◌, ◌++◌, take}
use Rattle.flt_stack_threads.specs.Places.{IsCallerOf, asked_by, put_by}
use Rattle.flt_stack_threads.proofs.asking.put_all.Given as goal

abbrev pub invariant-loop-ticket : goal.invariant-loop-ticket
invariant-loop-ticket g l = record {
  place : IsCallerOf l.exchange l.place;
  put : (put_by l.place).put ≡ (put_by l.initial.place).put ++ take l.ticket-index l.tickets;
  requests : asked_by l.place ≡ asked_by l.initial.place;
}
