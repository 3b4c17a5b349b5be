use Rattle.std.proofs.Common.{◌≡◌}
use Rattle.flt_analyse.specs.Walk.{nones}
use Rattle.flt_analyse.proofs.walk.Walk.open.Given as goal

abbrev pub invariant-points : goal.invariant-points
invariant-points l = l.points ≡ nones l._point
