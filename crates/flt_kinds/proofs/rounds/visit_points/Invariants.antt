use Rattle.std.proofs.Common.{◌≡◌, ◌≤◌, ◌||◌}
use Rattle.flt_graph.specs.Graph.{points_at}
use Rattle.flt_kinds.specs.Rounds.{points_visited, points_change}
use Rattle.flt_kinds.proofs.rounds.visit_points.Given as goal

abbrev pub invariant-loop-left : goal.invariant-loop-left
invariant-loop-left l =
    record {
      few : l.left ≤ 513;
      visited : points_visited l.graph l.anchor l.callback l.left l.cells
          ≡ points_visited l.graph l.anchor l.callback (points_at l.graph l.callback) l.initial.cells;
      changed : (l.changed || points_change l.graph l.anchor l.callback l.left l.cells)
          ≡ points_change l.graph l.anchor l.callback (points_at l.graph l.callback) l.initial.cells;
    }

abbrev pub decreases-loop-left : goal.decreases-loop-left
decreases-loop-left l = l.left
