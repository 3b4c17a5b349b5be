use Rattle.std.proofs.Common.{take}
use Rattle.std.specs.List.{AllZip}
use Rattle.flt_explain_outcomes.specs.Schedules.{IsGoalFor}
use Rattle.flt_explain_outcomes.proofs.schedules.goals_for.Given as goal

abbrev pub invariant-loop-place : goal.invariant-loop-place
invariant-loop-place l = AllZip IsGoalFor (take l.place l.found) l.goals.items
