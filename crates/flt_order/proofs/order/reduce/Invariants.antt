use Rattle.std.proofs.Common.{◌≡◌, ◌+◌}
use Rattle.flt_order.specs.Order.{AreRanked, count_left}
use Rattle.flt_order.proofs.order.reduce.Given as goal

abbrev pub invariant-loop-round : goal.invariant-loop-round
invariant-loop-round l = AreRanked l.graph l.cert l.left l.round × (count_left l.left + l.round ≡ 8)
