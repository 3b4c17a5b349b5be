use Rattle.std.proofs.Common.{◌≡◌, ℕ, ◌<◌, get_or, None}
use Rattle.std.specs.Prelude.{is_some}
use Rattle.flt_graph.specs.Kept.{is_kept}
use Rattle.flt_check.proofs.thin_points.other_point.Given as goal

abbrev pub invariant-loop-point : goal.invariant-loop-point
invariant-loop-point l = (p : ℕ) → p < l.point → is_some (get_or l.slots p None) ≡ is_kept l.graph l.callback p
