use Rattle.std.proofs.Common.{◌≡◌, drop}
use Rattle.flt_order.specs.Circle.{from_taken}
use Rattle.flt_order.proofs.circle.first_taken.Given as goal

abbrev pub invariant-loop-number : goal.invariant-loop-number
invariant-loop-number l = from_taken l.lock (drop l.number l.acquisitions) ≡ from_taken l.lock l.acquisitions
