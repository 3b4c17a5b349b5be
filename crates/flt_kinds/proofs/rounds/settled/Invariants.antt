use Rattle.std.proofs.Common.{◌≡◌, ◌+◌, false, length, if◌then◌else◌}
use Rattle.flt_kinds.specs.Cells.{cells_for, count_empty}
use Rattle.flt_kinds.specs.Rounds.{changes}
use Rattle.flt_kinds.specs.Settled.{IsJust}
use Rattle.flt_kinds.proofs.rounds.settled.Given as goal

abbrev pub invariant-loop-open : goal.invariant-loop-open
invariant-loop-open l =
    record {
      sized : length l.cells.items ≡ cells_for (length l.graph.callbacks);
      just : IsJust l.graph l.anchor l.cells.items;
      closed : l.open ≡ false → changes l.graph l.anchor l.cells.items ≡ false;
    }

abbrev pub decreases-loop-open : goal.decreases-loop-open
decreases-loop-open l = count_empty l.cells.items + (if l.open then 1 else 0)
