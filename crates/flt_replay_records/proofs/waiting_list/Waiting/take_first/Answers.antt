use Rattle.std.proofs.Common.{[], ap, ◌∙◌}
use Rattle.flt_model.specs.Violations.{in_queue}
use Rattle.flt_replay_records.proofs.Queues.CountWaiting.{in_cons, entry_counted, entry_taken}
use Rattle.flt_replay_records.proofs.waiting_list.Waiting.take_first.Goals as goal

pub invariant_of-self : goal.invariant_of-self
invariant_of-self c =
    let at = c.in-Some.ensures.item.3 in
    let entry = c.in-Some-take_first.entry in
    let first = c.in-Some-take_first.ensures in
    let counted = entry_counted c.self.inside.queues.items c.self.inside.items.items c.self.inside.counts c.take.new.self
    c.self.invariant c.args.filter at.0 c.in-Some.queue.now c.take_first.new.self (at.1 []) entry
    (λ v. ap (in_queue v) first ∙ in_cons v entry c.take_first.new.self) in
    entry_taken c.self.inside.queues.items c.self.inside.items.items c.self.inside.counts c.take.new.self c.self.invariant
    c.args.filter at.0 c.in-Some.queue.now c.take_first.new.self (at.1 []) entry
    (λ v. ap (in_queue v) first ∙ in_cons v entry c.take_first.new.self) (c.take.ensures counted)
