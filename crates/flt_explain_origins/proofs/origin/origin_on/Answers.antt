use Rattle.std.proofs.Common.{◌≡◌, false, arith, rules}
use Rattle.flt_explain_origins.specs.Origins as spec
use Rattle.flt_explain_origins.proofs.Last.{last_at, none_at}
use Rattle.flt_explain_origins.proofs.origin.origin_on.Goals as goal

pub returns-then-not-is_origin-clause-none : goal.returns-then-not-is_origin-clause-none
returns-then-not-is_origin-clause-none c = λ none.
    (let wrong : c.is_origin.result ≡ false = first_of (cc, search rules, grind arith) in
    none_at c.args.graph.now c.args.callback c.args.fact c.args.steps.now c.last_made-cause.result.1.now c.args.point
    c.last_made-cause.result.0 c.is_origin.result c.last_made-cause.ensures.cause c.last_made-cause.ensures.since c.is_origin.ensures wrong)

pub returns-clause-last : goal.returns-clause-last
returns-clause-last c =
    let steps = c.args.steps.now in
    let later : c.in_ok-later.later ≡ spec.since c.args.graph.now c.args.callback c.args.fact steps steps =
    cc (c.in_ok-later.ensures, c.last_made-cause.ensures.since) in
    last_at c.args.graph.now c.args.callback c.args.fact steps c.in_ok-later.later c.last_made-cause.result.0
    c.last_made-cause.ensures.cause later
