use Rattle.flt_explain_origins.proofs.FollowedBack.{found_traced}
use Rattle.flt_explain_origins.proofs.path.origin_at.Goals as goal

pub returns-in-Some-clause-meaning : goal.returns-in-Some-clause-meaning
returns-in-Some-clause-meaning c =
    (c.in_ok-found-in-Some.ensures c.args.point
    (found_traced c.args.graph.now c.args.callback c.args.fact c.in_ok-number.field-0 c.in-Some.number
    c.args.point c.reach.new.search c.in_ok-number.ensures.found c.in-Some.is)).0

pub returns-in-Some-clause-path : goal.returns-in-Some-clause-path
returns-in-Some-clause-path c =
    (c.in_ok-found-in-Some.ensures c.args.point
    (found_traced c.args.graph.now c.args.callback c.args.fact c.in_ok-number.field-0 c.in-Some.number
    c.args.point c.reach.new.search c.in_ok-number.ensures.found c.in-Some.is)).1
