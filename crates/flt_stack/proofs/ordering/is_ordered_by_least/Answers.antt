use Rattle.flt_stack.proofs.Leasts.{least_shows, told_by}
use Rattle.flt_stack.proofs.ordering.is_ordered_by_least.Goals as goal

pub returns-in-Ok : goal.returns-in-Ok
returns-in-Ok c =
    let shown = least_shows c.is_partial_order.ensures.computed c.args.graph.now c.in-Ok.least c.in-Ok.ensures.covers
    c.in-Ok.ensures.least in
    told_by _ c.is_none.result c.is_none.ensures _
    (λ none. shown.0 (c.find_circle.ensures.ordered.0 none), λ some. c.find_circle.ensures.ordered.1 (shown.1 some))
