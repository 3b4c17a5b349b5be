use Rattle.std.proofs.Common.{◌≡◌, ◌+◌, length, true, false}
use Rattle.flt_rules.specs.declared.call.LockNumber.{LockNumber}
use Rattle.flt_order.specs.Circle.{IsPath, TakesOnce}
use Rattle.flt_order.specs.Order.{count_left, is_left}
use Rattle.flt_order.proofs.Circles.{AreMet, takes}
use Rattle.flt_order.proofs.circle.circle_from.Given as goal

abbrev pub invariant-loop-met : goal.invariant-loop-met
invariant-loop-met l =
    IsPath l.graph l.cert l.fn.lock l.path l.last × (length l.path ≡ l.met) × (count_left l.unmet + l.met ≡ 8)
    × (is_left l.left l.last ≡ true) × (is_left l.unmet l.last ≡ true)
    × ((m : LockNumber) → is_left l.unmet m ≡ false → takes m l.path ≡ true) × AreMet l.unmet l.path × TakesOnce l.path
