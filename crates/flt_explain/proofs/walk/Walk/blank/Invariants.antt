use Rattle.std.proofs.Common.{◌≡◌}
use Rattle.std.specs.Prelude.{replicate, None, false}
use Rattle.flt_explain.proofs.walk.Walk.blank.Given as goal

abbrev pub invariant-loop-point : goal.invariant-loop-point
invariant-loop-point l = record { points : l.points ≡ replicate l._point None; pending : l.pending ≡ replicate l._point false }
