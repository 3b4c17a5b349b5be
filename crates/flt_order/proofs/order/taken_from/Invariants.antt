use Rattle.flt_order.specs.Order.{FreeIn}
use Rattle.flt_order.proofs.order.taken_from.Given as goal

abbrev pub invariant-loop-callback : goal.invariant-loop-callback
invariant-loop-callback l = FreeIn l.graph l.cert l.left l.lock l.callback
