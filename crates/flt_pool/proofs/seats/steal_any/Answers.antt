use Rattle.std.proofs.Common.{◌<◌, List, length, set, ◌∙◌, subst, arith}
use Rattle.std.proofs.lemmas.List.{length-set}
use Rattle.std.proofs.Math.Seq.{map-set_same}
use Rattle.crossbeam_deque.specs.Handles.{stealer_deque, view}
use Rattle.flt_pool.specs.Seats.{IsTakenOf, hands_of_ways}
use Rattle.flt_pool.specs.declared.hand.Hand.{Hand}
use Rattle.flt_pool.specs.declared.way.Way.{Way}
use Rattle.flt_pool.proofs.Takings.{at_way}
use Rattle.flt_pool.proofs.seats.steal_any.Goals as goal

pub returns-in-Some-clause-some : goal.returns-in-Some-clause-some
returns-in-Some-clause-some g c =
    let there : c.loop-k.k < length c.loop-k.ways = omega (arith, c.loop-k-test.true, c.loop-k.auto.ways) in
    subst (λ (before : List Hand). IsTakenOf c.in-Some.ticket before (hands_of_ways (set c.loop-k.ways c.loop-k.k c.steal.new.self)))
    c.loop-k.invariant.1
    (at_way c.in-Some.ticket c.loop-k.ways c.loop-k.k c.steal.new.self c.index-ways-k.result there c.in-Some.ensures.some)

pub returns-in-Some-clause-deques : goal.returns-in-Some-clause-deques
returns-in-Some-clause-deques g c =
    map-set_same (λ (way : Way). stealer_deque way.thief) c.loop-k.ways c.loop-k.k c.steal.new.self c.index-ways-k.result
    c.in-Some.ensures.deque
    ∙ c.loop-k.invariant.2

pub loop-k-preserved : goal.loop-k-preserved
loop-k-preserved g c =
    let d = c.index-ways-k.result in (
      length-set c.loop-k.ways c.loop-k.k c.steal.new.self ∙ c.loop-k.invariant.0,
      map-set_same (λ (way : Way). view way.pass) c.loop-k.ways c.loop-k.k c.steal.new.self d c.in_default.ensures.none
          ∙ c.loop-k.invariant.1,
      map-set_same (λ (way : Way). stealer_deque way.thief) c.loop-k.ways c.loop-k.k c.steal.new.self d c.in_default.ensures.deque
          ∙ c.loop-k.invariant.2,
    )
