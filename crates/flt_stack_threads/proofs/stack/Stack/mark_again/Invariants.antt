use Rattle.std.proofs.Common.{◌≡◌, ◌++◌}
use Rattle.flt_cancel.specs.Serials.{serials_below}
use Rattle.flt_stack_threads.specs.Places.{IsWorkerOf, collected_by, marks_by}
use Rattle.flt_stack_threads.proofs.stack.Stack.mark_again.Given as goal

abbrev pub invariant-loop-group : goal.invariant-loop-group
invariant-loop-group g l = record {
  seat : IsWorkerOf l.self.exchange l.seat.place;
  marked : (marks_by l.seat.place).asked ≡ (marks_by l.fn.seat.place).asked ++ serials_below l.group 0 l.groups;
  unmarked : (marks_by l.seat.place).collected ≡ (marks_by l.fn.seat.place).collected;
  requests : collected_by l.seat.place ≡ collected_by l.fn.seat.place;
  tickets : l.seat.place.tickets ≡ l.fn.seat.place.tickets;
  waiting : l.seat.waiting ≡ l.fn.seat.waiting;
  left : l.seat.requests ≡ l.fn.seat.requests;
  share : l.seat.share ≡ l.fn.seat.share;
  fulls : l.seat.fulls ≡ l.fn.seat.fulls;
}
