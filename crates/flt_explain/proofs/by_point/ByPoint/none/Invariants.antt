use Rattle.std.proofs.Common.{◌≡◌}
use Rattle.std.specs.Prelude.{[], replicate}
use Rattle.flt_explain.proofs.by_point.ByPoint.none.Given as goal

abbrev pub invariant-loop-point : goal.invariant-loop-point
invariant-loop-point l = l.lists ≡ replicate l._point []
