use Rattle.std.proofs.Common.{◌-◌, ◌+◌, ◌≡◌, ◌≤◌, drop}
use Rattle.flt_explain_timeline.specs.Folds as spec
use Rattle.flt_explain_timeline.proofs.folds.repeated.Given as goal

-- so far all are alike
abbrev pub invariant-loop-alike : goal.invariant-loop-alike
invariant-loop-alike l = record {
  repeats : spec.Repeats l.told l.rows l.first l.block l.alike;
  within : l.alike ≤ l.most;
  rest : l.alike + spec.alike l.told (drop (l.first + l.alike) l.rows) (drop (l.first + l.alike + l.block) l.rows)
      ≡ spec.alike l.told (drop l.first l.rows) (drop (l.first + l.block) l.rows);
}

abbrev pub decreases-loop-alike : goal.decreases-loop-alike
decreases-loop-alike l = l.most - l.alike
