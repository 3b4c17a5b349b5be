use Rattle.flt_order.proofs.Circles.{if_none, none_ordered, two_at_least}
use Rattle.flt_order.proofs.Ranks.{stuck_at}
use Rattle.flt_order.proofs.circle.find_circle.Goals as goal

pub returns-clause-ordered : goal.returns-clause-ordered
returns-clause-ordered c =
    let taken = stuck_at c.args.graph.now c.args.cert.now c.reduce-left.result c.in_ok-lock.lock c.in_ok-lock.ensures.some
    c.reduce-left.ensures.rest in (
      λ none. absurd (if_none c.circle_from.result none c.circle_from.ensures.none taken),
      none_ordered c.args.graph.now c.args.cert.now c.circle_from.result c.circle_from.ensures.circle,
    )

pub returns-clause-two : goal.returns-clause-two
returns-clause-two c =
    λ covers. two_at_least c.args.graph.now c.args.cert.now covers c.circle_from.result c.circle_from.ensures.circle
