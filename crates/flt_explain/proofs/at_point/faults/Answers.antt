use Rattle.std.proofs.Common.{◌++◌, ap, ◌∙◌}
use Rattle.flt_abs.specs.Breaks.{rules}
use Rattle.flt_explain.specs.Faults.{first_rule, faults_at}
use Rattle.flt_explain.specs.Subjects.{operands}
use Rattle.flt_explain.proofs.Firsts.{first_of_all}
use Rattle.flt_explain.proofs.at_point.faults.Goals as goal

pub returns-clause-least : goal.returns-clause-least
returns-clause-least c =
    let all = faults_at c.args.graph.now c.args.callback c.args.point c.args.state.now in
    ap first_rule (c.in_ok-add_all.ensures ∙ ap (λ fs. fs ++ all) c.new-faults.ensures)
    ∙ first_of_all c.args.graph.now c.args.callback c.args.point c.args.state.now operands rules
