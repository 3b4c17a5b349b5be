use Rattle.flt_order.specs.Order.{NoneLeftBefore}
use Rattle.flt_order.proofs.order.first_left.Given as goal

abbrev pub invariant-loop-held : goal.invariant-loop-held
invariant-loop-held l = NoneLeftBefore l.left l.locks l.held-index
