use Rattle.std.proofs.Common.{List, subst, sym, ◌∙◌}
use Rattle.std.specs.Prelude.{IfSome}
use Rattle.std.proofs.lemmas.List.{with_items_is}
use Rattle.flt_model.specs.declared.subject.Subject.{Subject}
use Rattle.flt_pool.specs.Seats.{hands_of_ways, IsTakenOf}
use Rattle.flt_pool.specs.declared.way.Way.{Way}
use Rattle.flt_pool.proofs.Takings.{at_first, at_another, if_taken}
use Rattle.flt_pool.proofs.pool.Pool.take.Goals as goal

pub returns-in-Some-clause-taken : goal.returns-in-Some-clause-taken
returns-in-Some-clause-taken g c = at_first _ _ _ _ c.in-Some.ensures.some

pub returns-in-Some-take_out-clause-taken : goal.returns-in-Some-take_out-clause-taken
returns-in-Some-take_out-clause-taken g c =
    at_another _ _ _ _ _ c.in_default.ensures.none (at_first _ _ _ _ c.in-Some-take_out.ensures.some)

pub returns-clause-taken : goal.returns-clause-taken
returns-clause-taken g c =
    let ways = c.args.seat.now.ways in
    let later = c.steal_any.new.ways in
    let kept = with_items_is ways c.steal_any.new.ways (c.steal_any.auto.ways ∙ c.as_mut_slice.ensures.len) in
    if_taken c.steal_any.result _ _ _ _ _ _ c.in_default.ensures.none c.in_default-take_out.ensures.none
    (subst (λ (after : List Way). IfSome c.steal_any.result (λ (t : Subject). IsTakenOf t (hands_of_ways ways.items) (hands_of_ways after)))
    (sym kept)
    (subst (λ (before : List Way). IfSome c.steal_any.result (λ (t : Subject). IsTakenOf t (hands_of_ways before) (hands_of_ways later)))
    c.as_mut_slice.ensures.value
    c.steal_any.ensures.some))
