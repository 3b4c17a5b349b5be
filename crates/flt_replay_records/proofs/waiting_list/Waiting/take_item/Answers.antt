use Rattle.std.proofs.Common.{None, sym}
use Rattle.flt_replay_records.proofs.Queues.CountWaiting.{item_counted, item_taken}
use Rattle.flt_replay_records.proofs.waiting_list.Waiting.take_item.Goals as goal

pub invariant_of-self-in-Some : goal.invariant_of-self-in-Some
invariant_of-self-in-Some c =
    let at = c.in_ok-place.ensures.item.3 in
    let taken = c.in_ok-item.ensures in
    let item = c.in_ok-item.item in
    let is = sym taken.value in
    let counted = item_counted c.self.inside.queues.items c.self.inside.items.items c.self.inside.counts c.take-in-Some.new.self
    c.self.invariant c.args.number at.0 item c.in_ok-place.place.now (at.1 None) is c.in-Some.visit c.in-Some.is in
    rw taken.after
    (item_taken c.self.inside.queues.items c.self.inside.items.items c.self.inside.counts c.take-in-Some.new.self c.self.invariant
    c.args.number at.0 item c.in_ok-place.place.now (at.1 None) is (λ v. rw c.in-Some.is (c.take-in-Some.ensures counted v)))
