use Rattle.flt_explain_outcomes.specs.Reach.{GoOnBefore}
use Rattle.flt_explain_outcomes.proofs.reach.Survey.all_go_on.Given as goal

abbrev pub invariant-loop-point : goal.invariant-loop-point
invariant-loop-point l = GoOnBefore l.self.graph.now l.self.unset l.self.variable l.rows l.callback l.point
