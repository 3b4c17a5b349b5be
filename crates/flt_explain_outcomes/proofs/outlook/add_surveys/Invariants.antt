use Rattle.std.specs.List.{All}
use Rattle.flt_explain_outcomes.specs.Reach.{IsSurveyed}
use Rattle.flt_explain_outcomes.proofs.outlook.add_surveys.Given as goal

abbrev pub invariant-loop-variable : goal.invariant-loop-variable
invariant-loop-variable l = All (IsSurveyed l.graph) l.surveyed
