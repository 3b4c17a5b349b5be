use Rattle.std.proofs.Common.{sym, ◌∙◌}
use Rattle.flt_explain_closed.proofs.closed.is_closed.Goals as goal

pub returns-clause-meaning : goal.returns-clause-meaning
returns-clause-meaning c = λ h.
    c.closed_sets_are_closed.ensures c.args.graph.now c.args.callback c.args.locks c.args.members.now
    (sym c.passes.ensures ∙ h)
