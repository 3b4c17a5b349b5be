use Rattle.flt_order.specs.Order.{AreTakenBefore}
use Rattle.flt_order.proofs.order.next_free.Given as goal

abbrev pub invariant-loop-place : goal.invariant-loop-place
invariant-loop-place l = AreTakenBefore l.graph l.cert l.left l.place
