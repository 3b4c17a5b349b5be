use Rattle.std.proofs.Common.{take}
use Rattle.std.specs.List.{AllZip}
use Rattle.flt_explain_outcomes.specs.Schedules.{IsOutcome}
use Rattle.flt_explain_outcomes.proofs.schedules.outcomes_by.Given as goal

abbrev pub invariant-loop-place : goal.invariant-loop-place
invariant-loop-place l = AllZip (IsOutcome l.is_stack l.trees l.suspects.filter l.suspects.outlook.now) (take l.place l.suspects.found.now)
    l.all.items
