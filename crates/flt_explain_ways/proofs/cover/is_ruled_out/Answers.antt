use Rattle.std.proofs.Common.{sym, ◌∙◌}
use Rattle.flt_explain_ways.proofs.NoWays.{ruled_out}
use Rattle.flt_explain_ways.proofs.cover.is_ruled_out.Goals as goal

pub returns : goal.returns
returns c = λ h.
    ruled_out c.leads_past_follows_situations.ensures c.breaks_rule_is_monotone.ensures c.closed_sets_are_closed.ensures
    c.args.graph.now c.args.finding.now c.args.covers.now c.args.closed.now c.args.number c.requires (sym c.has_ruled_out.ensures ∙ h)
