use Rattle.flt_explain_outcomes.specs.Reach.{HoldsBefore}
use Rattle.flt_explain_outcomes.proofs.reach.Survey.holds.Given as goal

abbrev pub invariant-loop-callback : goal.invariant-loop-callback
invariant-loop-callback l = HoldsBefore l.self.graph.now l.self.unset l.self.variable l.rows l.callback
