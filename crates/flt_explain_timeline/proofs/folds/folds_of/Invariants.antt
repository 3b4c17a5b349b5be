use Rattle.std.proofs.Common.{drop, length, ◌-◌, ◌≡◌, ◌≤◌, ◌++◌}
use Rattle.flt_explain_timeline.specs.Folds as spec
use Rattle.flt_explain_timeline.proofs.folds.folds_of.Given as goal

-- the blocks so far, with what repeats them, end here
abbrev pub invariant-loop-first : goal.invariant-loop-first
invariant-loop-first l = record {
  folded : spec.AreFolds l.told l.rows 0 l.folds l.first;
  exact : l.folds ++ spec.folds_after l.told l.first 0 (drop l.first l.rows) ≡ spec.folds l.told l.rows;
  within : l.first ≤ length l.rows;
}

abbrev pub decreases-loop-first : goal.decreases-loop-first
decreases-loop-first l = length l.rows - l.first
