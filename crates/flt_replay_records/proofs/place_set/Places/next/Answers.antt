use Rattle.flt_replay_records.proofs.PlaceSets.PlaceOrder.{least_here, none_past, none_left}
use Rattle.flt_replay_records.proofs.place_set.Places.next.Goals as goal

pub returns-in-Some : goal.returns-in-Some
returns-in-Some c =
    least_here c.args.self.now.set c.args.i c.args.j c.args.from c.range.result
    (c.range.ensures.in_range tt) c.in-Some.place.now c.next.new.self c.in-Some.ensures.steps c.if-place-i.true c.if-place-j.true

pub returns-in_default : goal.returns-in_default
returns-in_default c =
    none_past c.args.self.now.set c.args.i c.args.j c.args.from c.range.result
    (c.range.ensures.in_range tt) c.in-Some.place.now c.next.new.self c.in-Some.ensures.steps (λ e f. c.if-place-j.false f)

pub returns-in_default-2 : goal.returns-in_default-2
returns-in_default-2 c =
    none_past c.args.self.now.set c.args.i c.args.j c.args.from c.range.result
    (c.range.ensures.in_range tt) c.in-Some.place.now c.next.new.self c.in-Some.ensures.steps (λ e f. c.if-place-i.false e)

pub returns-in_default-3 : goal.returns-in_default-3
returns-in_default-3 c =
    let h = rw c.in_default.is at c.next.ensures.steps in
    none_left c.args.self.now.set c.args.i c.args.j c.args.from c.range.result (c.range.ensures.in_range tt) h.0
