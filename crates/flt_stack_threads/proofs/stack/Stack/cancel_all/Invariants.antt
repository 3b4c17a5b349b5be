use Rattle.std.proofs.Common.{◌≡◌, ◌+◌, ◌≤◌, ◌<◌, [], ℕ}
use Rattle.std.specs.Int.{bit_at}
use Rattle.flt_stack_threads.specs.Waiting.{tickets}
use Rattle.flt_stack_threads.specs.Places.{IsWorkerOf}
use Rattle.flt_stack_threads.proofs.stack.Stack.cancel_all.Given as goal

abbrev pub invariant-loop-bit : goal.invariant-loop-bit
invariant-loop-bit g l = record {
  seat : IsWorkerOf l.self.exchange l.seat.place;
  waiting : tickets l.seat.waiting ≡ [];
  tried : (k : ℕ) → k < l.bit → bit_at l.seat.requests.bits k ≡ 0;
  pads : l.seat.place.requests ≡ l.fn.seat.place.requests;
  share : l.seat.share.amount ≡ l.fn.seat.share.amount + l.made;
  few : l.made ≤ l.bit;
  parts : l.seat.share.parts ≡ l.fn.seat.share.parts;
  fulls : l.seat.fulls.amount ≡ l.fn.seat.fulls.amount;
  fulls_parts : l.seat.fulls.parts ≡ l.fn.seat.fulls.parts;
}
