use Rattle.std.proofs.Common.{◌≡◌, ◌+◌, ◌*◌, ◌≤◌, []}
use Rattle.flt_stack_threads.specs.Requests.{AreSwept, IsEmpty}
use Rattle.flt_stack_threads.specs.Waiting.{tickets}
use Rattle.flt_stack_threads.specs.Places.{IsWorkerOf, collected_by, marks_by}
use Rattle.flt_stack_threads.proofs.stack.Stack.sweep.Given as goal

abbrev pub invariant-loop-group : goal.invariant-loop-group
invariant-loop-group g l = record {
  seat : IsWorkerOf l.self.exchange l.seat.place;
  waiting : tickets l.seat.waiting ≡ [];
  tried : IsEmpty l.seat.requests.bits;
  swept : AreSwept l.groups l.group (collected_by l.fn.seat.place).seen (collected_by l.seat.place).seen;
  marks : marks_by l.seat.place ≡ marks_by l.fn.seat.place;
  share : l.seat.share.amount ≡ l.fn.seat.share.amount + l.made;
  few : l.made ≤ 1024 * l.group;
  parts : l.seat.share.parts ≡ l.fn.seat.share.parts;
  fulls : l.seat.fulls.amount ≡ l.fn.seat.fulls.amount;
  fulls_parts : l.seat.fulls.parts ≡ l.fn.seat.fulls.parts;
}
