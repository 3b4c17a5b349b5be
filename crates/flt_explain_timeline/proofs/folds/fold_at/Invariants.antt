use Rattle.std.proofs.Common.{◌-◌, ◌≡◌, drop}
use Rattle.flt_explain_timeline.specs.Folds as spec
use Rattle.flt_explain_timeline.proofs.folds.fold_at.Given as goal

-- no shorter block comes three times
abbrev pub invariant-loop-block : goal.invariant-loop-block
invariant-loop-block l =
    spec.shortest l.told (drop l.first l.rows) (25 - l.block) l.block ≡ spec.shortest l.told (drop l.first l.rows) 24 1
