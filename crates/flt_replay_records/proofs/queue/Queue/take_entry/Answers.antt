use Rattle.std.proofs.Common.{◌≡◌, Some, None, get_or, sym, refl, ◌∙◌}
use Rattle.std.proofs.lemmas.List.{get_or_past}
use Rattle.flt_replay_records.proofs.Queues.Tickets.{none_of, not_missing, taken_of, tickets_without}
use Rattle.flt_replay_records.proofs.queue.Queue.take_entry.Goals as goal

pub invariant_of-self-2 : goal.invariant_of-self-2
invariant_of-self-2 c =
    let es = c.self.inside.entries.items in
    let front = c.self.inside.front in
    let ticket = c.in-Some.ticket in
    let entry = c.in_ok-entry.entry in
    let at = c.in_ok-place.ensures.item.3 in
    let taken = c.in_ok-entry.ensures in
    let there : get_or es ticket None ≡ Some entry = sym (at.1 None) ∙ sym taken.value in
    let within = rw (c.as_slice-2.ensures.value, taken.after) at c.next_left-self-inside.ensures.within in
    let rest = rw (c.as_slice-2.ensures.value, taken.after) at c.next_left-self-inside.ensures.taken in
    let first = rw (c.as_slice-2.ensures.value, taken.after) at c.next_left-self-inside.ensures.first in
    rw taken.after
    (tickets_without es _ front c.next_left-self-inside.result c.self.inside.starts c.self.inside.counts c.take-2.new.self ticket entry
    c.self.invariant there refl c.take-2.ensures within rest first)

pub returns : goal.returns
returns c =
    let es = c.self.inside.entries.items in
    let ticket = c.in-Some.ticket in
    let at = c.in_ok-place.ensures.item.3 in
    let taken = c.in_ok-entry.ensures in
    let least = rw (c.as_slice.ensures.value, c.in-Some.is) at c.least_ticket.ensures in
    let there : get_or es ticket None ≡ Some c.in_ok-entry.entry = sym (at.1 None) ∙ sym taken.value in
    rw (← c.self.view_is, taken.after) (taken_of es c.args.visits.now ticket least c.in_ok-entry.entry there)

pub returns-in_default : goal.returns-in_default
returns-in_default c =
    let none = rw (c.as_slice.ensures.value, c.in_default.is) at c.least_ticket.ensures in
    (rw (← c.self.view_is) (none_of c.self.inside.entries.items c.args.visits.now none), refl)

pub returns-in_err-place : goal.returns-in_err-place
returns-in_err-place c =
    let es = c.self.inside.entries.items in
    let least = rw (c.as_slice.ensures.value, c.in-Some.is) at c.least_ticket.ensures in
    absurd (not_missing es c.args.visits.now c.in-Some.ticket least (get_or_past es c.in-Some.ticket None c.in_err-place.ensures.item.3))

pub returns-in_err-entry : goal.returns-in_err-entry
returns-in_err-entry c =
    let es = c.self.inside.entries.items in
    let least = rw (c.as_slice.ensures.value, c.in-Some.is) at c.least_ticket.ensures in
    absurd (not_missing es c.args.visits.now c.in-Some.ticket least
    (sym (c.in_ok-place.ensures.item.3.1 None) ∙ sym c.in_err-entry.ensures.value))
