use Rattle.flt_explain_outcomes.specs.Reach.{StartsBefore}
use Rattle.flt_explain_outcomes.proofs.reach.Survey.starts_on.Given as goal

abbrev pub invariant-loop-number : goal.invariant-loop-number
invariant-loop-number l = StartsBefore l.self.graph.now l.self.unset l.self.variable l.rows l.callback l.point l.number
