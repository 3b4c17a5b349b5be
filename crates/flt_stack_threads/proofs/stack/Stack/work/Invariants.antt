use Rattle.std.proofs.Common.{◌≡◌, ◌+◌, ◌*◌, ◌≤◌, []}
use Rattle.flt_stack_threads.specs.Requests.{IsEmpty}
use Rattle.flt_stack_threads.specs.Waiting.{tickets}
use Rattle.flt_stack_threads.specs.Places.{IsWorkerOf}
use Rattle.flt_stack_threads.proofs.stack.Stack.work.Given as goal
use Rattle.flt_rules.specs.Limits.{max_entries}

abbrev pub invariant-loop : goal.invariant-loop
invariant-loop g l = record {
  seat : IsWorkerOf l.self.exchange l.seat.place;
  waiting : tickets l.seat.waiting ≡ [];
  tried : IsEmpty l.fn.seat.requests.bits → IsEmpty l.seat.requests.bits;
  share : l.seat.share.amount ≡ l.fn.seat.share.amount + l.made;
  few : l.made ≤ 65600 * l.counter + 65600;
  taken : l.taken ≤ max_entries;
  parts : l.seat.share.parts ≡ l.fn.seat.share.parts;
  fulls : l.seat.fulls.amount ≡ l.fn.seat.fulls.amount;
  fulls_parts : l.seat.fulls.parts ≡ l.fn.seat.fulls.parts;
}
