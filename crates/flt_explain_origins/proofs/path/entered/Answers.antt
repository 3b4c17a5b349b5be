use Rattle.std.proofs.Common.{ap, ◌∙◌}
use Rattle.flt_abs.specs.Entry.{entry}
use Rattle.flt_explain_origins.specs.Origins.{may_be}
use Rattle.flt_explain_origins.proofs.Searched.{entered_searched}
use Rattle.flt_explain_origins.proofs.path.entered.Goals as goal

pub returns : goal.returns
returns c =
    entered_searched c.args.graph.now c.args.callback c.args.fact c.args.point c.points.result
    c.may_be_at_entry.result c.in_ok-search.search
    c.enter.new.self c.points.ensures (c.may_be_at_entry.ensures ∙ ap (λ place. may_be (entry place) c.args.fact) c.place.ensures)
    c.in_ok-search.ensures c.in_ok-enter.ensures
