use Rattle.std.proofs.Common.{◌≡◌, ◌≤◌, ◌||◌, length}
use Rattle.flt_kinds.specs.Rounds.{callbacks_visited, callbacks_change}
use Rattle.flt_kinds.proofs.rounds.round.Given as goal

abbrev pub invariant-loop-left : goal.invariant-loop-left
invariant-loop-left l =
    record {
      few : l.left ≤ length l.graph.callbacks;
      visited : callbacks_visited l.graph l.anchor l.left l.cells
          ≡ callbacks_visited l.graph l.anchor (length l.graph.callbacks) l.initial.cells;
      changed : (l.changed || callbacks_change l.graph l.anchor l.left l.cells)
          ≡ callbacks_change l.graph l.anchor (length l.graph.callbacks) l.initial.cells;
    }

abbrev pub decreases-loop-left : goal.decreases-loop-left
decreases-loop-left l = l.left
