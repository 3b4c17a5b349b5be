use Rattle.pair_set.proofs.PairOrder.{least_here, none_past, none_left}
use Rattle.pair_set.proofs.pairs.PairSet.least.Goals as goal

pub returns-in-Some : goal.returns-in-Some
returns-in-Some c =
    rw (← c.self.view_is) (least_here c.self.inside.set c.args.first c.range.result
    (c.range.ensures.in_range tt) c.in-Some.pair.now c.next.new.self c.in-Some.ensures.steps c.if-pair-first.true)

pub returns-in_default : goal.returns-in_default
returns-in_default c =
    rw (← c.self.view_is) (none_past c.self.inside.set c.args.first c.range.result
    (c.range.ensures.in_range tt) c.in-Some.pair.now c.next.new.self c.in-Some.ensures.steps c.if-pair-first.false)

pub returns-in_default-2 : goal.returns-in_default-2
returns-in_default-2 c =
    let h = rw c.in_default.is at c.next.ensures.steps in
    rw (← c.self.view_is) (none_left c.self.inside.set c.args.first c.range.result (c.range.ensures.in_range tt) h.0)
