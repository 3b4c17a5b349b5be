use Rattle.std.proofs.Common.{◌≡◌, ◌≤◌, ◌+◌, min, drop}
use Rattle.flt_tree.specs.Measures.{points}
use Rattle.flt_rules.specs.Limits.{max_points}
use Rattle.flt_tree.proofs.measure.+points.Given as goal

abbrev pub invariant-points-loop-statement : goal.invariant-points-loop-statement
invariant-points-loop-statement l =
    record {
      same : min (points l.body) max_points ≡ min (l.total + points (drop l.statement-index l.body)) max_points;
      within : l.total ≤ max_points;
    }
