-- Boards on filters of which no run breaks anything.
use Rattle.std.proofs.Common.{◌≡◌, List, Some, None, sym, subst}
use Rattle.flt_tree.specs.declared.filter.Filter.{Filter}
use Rattle.flt_machine.specs.Situations.{Situation, IsBoard}
use Rattle.flt_model.specs.Expansion.{IsCleanRun}
use Rattle.flt_model.specs.Program.{by_altitude}
use Rattle.flt_model.specs.Runs.{breaks, run}
use Rattle.flt_model.specs.Steps.{Transition}

-- where filters stand in the order of their altitudes and no run of them breaks anything, the journal of a board is such a run
pub clean_board : (p : List Filter) (b : Situation) → by_altitude p ≡ p → ((transitions : List Transition) → breaks p transitions ≡ None) →
    IsBoard p b → IsCleanRun p b.entries
clean_board p b ordered clean own = record {
  transitions = own.transitions;
  last = own.moment;
  expanded = own.expanded;
  runs = subst (λ (q : List Filter). run q own.transitions ≡ Some own.moment) (sym ordered) own.runs;
  clean = subst (λ (q : List Filter). breaks q own.transitions ≡ None) (sym ordered) (clean own.transitions);
}
