use Rattle.std.proofs.Common.{◌≡◌, ◌∷◌, [], ◌++◌, List, All, length, map, ap, subst, sym, ◌∙◌, arith, rules}
use Rattle.std.proofs.lemmas.List.{append_assoc, append-nil, length-map, nil_from_length}
use Rattle.std.proofs.lemmas.List.Elements.{All-tail}
use Rattle.crossbeam_deque.specs.Handles.{stealer_deque, worker_deque, worker_view}
use Rattle.crossbeam_deque.specs.Injected.{injector_view}
use Rattle.flt_pool.specs.Hands.{AreNewcomers, newcomer}
use Rattle.flt_pool.specs.Seats.{deque_of, hands, hands_of_ways, IsTakeSeatOf, ReachesOthers, DequeId}
use Rattle.flt_pool.specs.declared.deque.Deque.{Deque}
use Rattle.flt_pool.specs.declared.seats.TakeSeat.{TakeSeat}
use Rattle.flt_pool.proofs.Newcomers.{all_new}
use Rattle.flt_pool.proofs.Pushes.{longer, all_more, map_more}
use Rattle.flt_pool.proofs.Splits.{without}
use Rattle.flt_pool.proofs.opening.take_seats.Goals as goal

abbrev id_of : Deque → DequeId
id_of deque = worker_deque deque.owner

abbrev IsFresh : Deque → Type 0
IsFresh deque = worker_view deque.owner ≡ newcomer

pub loop-deque-preserved : goal.loop-deque-preserved
loop-deque-preserved c =
    let more = c.in_ok-push.ensures.items in
    let deque = c.in-Some.deque in
    let rest : List Deque = c.pop_front.new.self.items in
    let front : c.loop-deque.deques.items ≡ deque ∷ rest = c.in-Some.ensures.items in
    let fresh : All IsFresh (deque ∷ rest) = subst (All IsFresh) front c.loop-deque.invariant.1 in
    let earlier = map deque_of c.loop-deque.seats.items in
    let later = map id_of rest in
    let ids = map stealer_deque c.in_ok-deques.thieves.items in
    let split : ids ≡ earlier ++ id_of deque ∷ later =
    c.loop-deque.invariant.3 ∙ ap (λ (ds : List Deque). earlier ++ map id_of ds) front in
    let place = c.len.ensures ∙ c.loop-deque.seats.ok.0 ∙ sym (length-map c.loop-deque.seats.items deque_of) in
    let reaches = c.in_ok-ways.ensures.deques
    ∙ without earlier later (id_of deque) c.len.result _ place (ap (map stealer_deque) c.as_slice.ensures.value ∙ split) in (
      omega (arith, longer _ _ _ more, ap (λ (ds : List Deque). length ds) front, c.loop-deque.invariant.0),
      All-tail IsFresh deque rest fresh,
      all_more _ _ _ more (λ (seat : TakeSeat). IsTakeSeatOf c.args.pool.now seat × AreNewcomers (hands seat))
          c.loop-deque.invariant.2 (
            c.pass-pass.ensures.0,
            all_new (worker_view deque.owner) (injector_view c.pass-pass.result) (hands_of_ways c.in_ok-ways.ways.items)
                (fresh 0 deque (omega arith)) c.pass-pass.ensures.1 c.in_ok-ways.ensures.hands,
          ),
      split ∙ sym (append_assoc earlier (id_of deque ∷ []) later)
          ∙ ap (λ (xs : List DequeId). xs ++ later) (sym (map_more _ _ _ more deque_of)),
      all_more _ _ _ more (ReachesOthers ids) c.loop-deque.invariant.4 (earlier, later, split, reaches),
    )

pub returns-clause-ways : goal.returns-clause-ways
returns-clause-ways c =
    let none : length c.loop-deque.deques.items ≡ 0 = search rules in
    let seats = c.loop-deque.seats.items in
    let all = c.loop-deque.invariant.3
    ∙ ap (λ (ds : List Deque). map deque_of seats ++ map id_of ds) (nil_from_length c.loop-deque.deques.items none)
    ∙ append-nil (map deque_of seats) in
    subst (λ (ids : List DequeId). All (ReachesOthers ids) seats) all c.loop-deque.invariant.4
