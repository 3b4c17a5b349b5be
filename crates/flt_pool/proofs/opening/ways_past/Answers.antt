use Rattle.std.proofs.Common.{◌+◌, ◌-◌, ◌++◌, List, length, drop, map, take, ap, sym, ◌∙◌, arith}
use Rattle.std.specs.List.{take-map, drop-map}
use Rattle.std.proofs.lemmas.List.{length-drop, take_all}
use Rattle.crossbeam_deque.specs.Handles.{stealer_deque}
use Rattle.flt_pool.specs.Seats.{reached}
use Rattle.flt_pool.specs.declared.way.Way.{Way}
use Rattle.flt_pool.proofs.opening.ways_past.Goals as goal

pub returns-clause-deques : goal.returns-clause-deques
returns-clause-deques c =
    let thieves = c.args.thieves.now in
    let past = c.args.place + 1 in
    let before = c.in_ok-add_ways.ensures.deques
    ∙ ap (λ (ways : List Way). reached ways ++ map stealer_deque (take c.args.place thieves)) c.in_ok-ways.ensures.items
    ∙ sym (take-map stealer_deque c.args.place thieves) in
    let rest = take_all (length thieves - past) (drop past thieves) (omega (arith, length-drop past thieves)) in
    c.in_ok-add_ways-2.ensures.deques ∙ (λ i. before i ++ (ap (map stealer_deque) rest ∙ sym (drop-map stealer_deque past thieves)) i)
