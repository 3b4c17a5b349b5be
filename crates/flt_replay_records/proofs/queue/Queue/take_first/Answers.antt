use Rattle.std.proofs.Common.{◌≡◌, Some, None, get_or, sym, refl, ◌∙◌}
use Rattle.flt_replay_records.proofs.Queues.Tickets.{taken_front, tickets_without}
use Rattle.flt_replay_records.proofs.queue.Queue.take_first.Goals as goal

pub invariant_of-self-2 : goal.invariant_of-self-2
invariant_of-self-2 c =
    let es = c.self.inside.entries.items in
    let front = c.self.inside.front in
    let entry = c.in_ok-entry.entry in
    let at = c.in_ok-place.ensures.item.3 in
    let taken = c.in_ok-entry.ensures in
    let there : get_or es front None ≡ Some entry = sym (at.1 None) ∙ sym taken.value in
    let within = rw (c.as_slice.ensures.value, taken.after) at c.next_left-self-inside.ensures.within in
    let rest = rw (c.as_slice.ensures.value, taken.after) at c.next_left-self-inside.ensures.taken in
    let first = rw (c.as_slice.ensures.value, taken.after) at c.next_left-self-inside.ensures.first in
    rw taken.after
    (tickets_without es _ front c.next_left-self-inside.result c.self.inside.starts c.self.inside.counts c.take-2.new.self front entry
    c.self.invariant there refl c.take-2.ensures within rest first)

pub returns : goal.returns
returns c =
    let es = c.self.inside.entries.items in
    let front = c.self.inside.front in
    let at = c.in_ok-place.ensures.item.3 in
    let taken = c.in_ok-entry.ensures in
    let there : get_or es front None ≡ Some c.in_ok-entry.entry = sym (at.1 None) ∙ sym taken.value in
    rw (← c.self.view_is, taken.after) (taken_front es front c.in_ok-entry.entry c.self.invariant.taken there)
