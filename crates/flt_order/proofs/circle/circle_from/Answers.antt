use Rattle.std.proofs.Common.{[], ◌∷◌, sym, ◌∙◌, arith}
use Rattle.std.proofs.lemmas.List.{length-append}
use Rattle.flt_order.proofs.Circles.{longer, met_more, met_on, comes_round, none_found, once_from, once_more}
use Rattle.flt_order.proofs.Places.{place_below}
use Rattle.flt_order.proofs.Ranks.{free_not_taken, none_counted, one_less}
use Rattle.flt_order.proofs.circle.circle_from.Goals as goal

pub returns-in_err-found-clause-none : goal.returns-in_err-found-clause-none
returns-in_err-found-clause-none c =
    let there = c.loop-met.invariant.3 in
    rw c.from_residual.ensures (λ taken. free_not_taken c.args.graph.now c.args.cert.now c.args.left.now c.loop-met.last
    c.in_err-found.ensures.none (taken c.loop-met.last (place_below c.loop-met.last) there))

pub returns-then-not-is_left-clause-circle : goal.returns-then-not-is_left-clause-circle
returns-then-not-is_left-clause-circle c =
    let one = c.in_ok-found.ensures.some in
    rw (c.from_taken.ensures, c.push.ensures) (comes_round c.args.graph.now c.args.cert.now c.args.lock _ c.in_ok-found.found.holding
    (longer c.args.graph.now c.args.cert.now c.args.lock c.loop-met.path c.loop-met.last c.in_ok-found.found c.loop-met.invariant.0
    one.acquired one.taken))

pub returns-then-not-is_left-clause-once : goal.returns-then-not-is_left-clause-once
returns-then-not-is_left-clause-once c =
    rw (c.from_taken.ensures, c.push.ensures) (once_from c.in_ok-found.found.holding _
    (once_more c.loop-met.unmet c.loop-met.path c.loop-met.last c.in_ok-found.found c.loop-met.invariant.4 c.in_ok-found.ensures.some.taken
    c.loop-met.invariant.6 c.loop-met.invariant.7))

pub returns-then-not-is_left-clause-none : goal.returns-then-not-is_left-clause-none
returns-then-not-is_left-clause-none c =
    let one = c.in_ok-found.ensures.some in
    let met = met_on c.loop-met.unmet c.loop-met.path c.loop-met.last c.in_ok-found.found one.taken c.loop-met.invariant.5
    c.in_ok-found.found.holding (sym (rw c.remove.ensures at c.is_left.ensures) ∙ c.if-not-is_left.true) in
    rw (c.from_taken.ensures, c.push.ensures) (none_found c.in_ok-found.found.holding _ _ met)

pub loop-met-preserved : goal.loop-met-preserved
loop-met-preserved c =
    let one = c.in_ok-found.ensures.some in
    let path = c.loop-met.path in
    let found = c.in_ok-found.found in
    rw (c.push.ensures, c.remove.ensures) (
      longer c.args.graph.now c.args.cert.now c.args.lock path c.loop-met.last found c.loop-met.invariant.0 one.acquired one.taken,
      omega (arith, length-append path (found ∷ []), c.loop-met.invariant.1),
      omega (arith, one_less c.loop-met.unmet c.loop-met.last c.loop-met.invariant.4, c.loop-met.invariant.2),
      one.among,
      sym (rw c.remove.ensures at c.is_left.ensures) ∙ c.if-not-is_left.false,
      met_on c.loop-met.unmet path c.loop-met.last found one.taken c.loop-met.invariant.5,
      met_more c.loop-met.unmet path c.loop-met.last found c.loop-met.invariant.4 one.taken c.loop-met.invariant.6,
      once_more c.loop-met.unmet path c.loop-met.last found c.loop-met.invariant.4 one.taken c.loop-met.invariant.6 c.loop-met.invariant.7,
    )

pub returns-clause-none : goal.returns-clause-none
returns-clause-none c =
    λ taken. none_counted c.loop-met.unmet c.loop-met.last (omega (arith, c.loop-met.invariant.2, c.loop-met-test.false))
    c.loop-met.invariant.4
