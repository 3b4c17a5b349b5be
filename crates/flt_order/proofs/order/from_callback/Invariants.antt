use Rattle.flt_order.specs.Order.{FreeBefore}
use Rattle.flt_order.proofs.order.from_callback.Given as goal

abbrev pub invariant-loop-point : goal.invariant-loop-point
invariant-loop-point l = FreeBefore l.graph l.cert l.left l.lock l.callback l.point
