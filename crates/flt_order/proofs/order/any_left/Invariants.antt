use Rattle.std.proofs.Common.{◌≡◌, ◌<◌, false}
use Rattle.flt_rules.specs.Call.{place_of}
use Rattle.flt_rules.specs.declared.call.LockNumber.{LockNumber}
use Rattle.flt_order.specs.Order.{is_left}
use Rattle.flt_order.proofs.order.any_left.Given as goal

abbrev pub invariant-loop-place : goal.invariant-loop-place
invariant-loop-place l = (m : LockNumber) → place_of m < l.place → is_left l.left m ≡ false
