use Rattle.std.proofs.Common.{◌≡◌, ℕ, ◌+◌, List, [], sym, ap, ◌∙◌}
use Rattle.flt_model.specs.Trace.{one_if}
use Rattle.flt_model.specs.Violations.{in_queue}
use Rattle.flt_model.specs.declared.parts.Entry.{Entry}
use Rattle.flt_replay_records.specs.Tickets.{is_of}
use Rattle.flt_replay_records.proofs.Queues.CountWaiting.{in_without, entry_counted, entry_taken}
use Rattle.flt_replay_records.proofs.waiting_list.Waiting.take_entry.Goals as goal

pub invariant_of-self : goal.invariant_of-self
invariant_of-self c =
    let at = c.in-Some.ensures.item.3 in
    let entry = c.in-Some-take_entry.entry in
    let was = c.in-Some-take_entry.ensures in
    let less : (v : ℕ) → in_queue v c.in-Some.queue.now ≡ one_if entry.visit v + in_queue v c.take_entry.new.self =
    λ v. in_without v (is_of c.args.visits.now) c.in-Some.queue.now entry was.0
    ∙ ap (λ (l : List Entry). one_if entry.visit v + in_queue v l) (sym was.1) in
    let counted = entry_counted c.self.inside.queues.items c.self.inside.items.items c.self.inside.counts c.take.new.self
    c.self.invariant c.args.filter at.0 c.in-Some.queue.now c.take_entry.new.self (at.1 []) entry less in
    entry_taken c.self.inside.queues.items c.self.inside.items.items c.self.inside.counts c.take.new.self c.self.invariant
    c.args.filter at.0 c.in-Some.queue.now c.take_entry.new.self (at.1 []) entry less (c.take.ensures counted)
