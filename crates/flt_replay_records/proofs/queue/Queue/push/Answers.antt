use Rattle.std.proofs.Common.{◌≡◌, length, arith}
use Rattle.std.proofs.lemmas.Grind.{common_steps}
use Rattle.flt_replay_records.proofs.Queues.Tickets.{present_push, tickets_with, tickets_begun, later_begun}
use Rattle.flt_replay_records.proofs.queue.Queue.push.Goals as goal

pub invariant_of-self-in_err-add : goal.invariant_of-self-in_err-add
invariant_of-self-in_err-add c =
    let es = c.self.inside.entries.items in
    let ticket : c.len-ticket.result ≡ length es = grind (arith, common_steps) in
    rw (c.in_ok-reserve.ensures.items, c.in_err-add.ensures.err)
    (tickets_begun es c.args.entry c.self.inside.front c.self.inside.starts c.begin.new.starts c.self.inside.counts c.self.invariant
    (λ z v. rw ticket at (c.in_ok-begin.ensures.begun z v)) c.in_ok-begin.ensures.kept)

pub invariant_of-self-2 : goal.invariant_of-self-2
invariant_of-self-2 c =
    let es = c.self.inside.entries.items in
    let ticket : c.len-ticket.result ≡ length es = grind (arith, common_steps) in
    rw (c.push_reserved.ensures.items, c.in_ok-reserve.ensures.items)
    (tickets_with es c.args.entry c.self.inside.front c.self.inside.starts c.begin.new.starts c.self.inside.counts c.add.new.self c.self.invariant
    c.in_ok-add.ensures.ok
    (later_begun es c.args.entry c.self.inside.front c.self.inside.starts c.begin.new.starts c.self.inside.counts c.self.invariant
    (λ z v. rw ticket at (c.in_ok-begin.ensures.begun z v)) c.in_ok-begin.ensures.kept))

pub returns-clause-ok : goal.returns-clause-ok
returns-clause-ok c =
    rw (c.push_reserved.ensures.items, c.in_ok-reserve.ensures.items, ← c.self.view_is)
    (present_push c.self.inside.entries.items c.args.entry)
