use Rattle.flt_replay_records.proofs.Counting.{back}
use Rattle.std.proofs.Common.{[]}
use Rattle.flt_replay_records.proofs.Queues.CountWaiting.{same_queue, entry_added}
use Rattle.flt_replay_records.proofs.waiting_list.Waiting.push.Goals as goal

pub invariant_of-self-in-Err : goal.invariant_of-self-in-Err
invariant_of-self-in-Err c =
    let at = c.in-Some.ensures.item.3 in
    same_queue c.self.inside.queues.items c.self.inside.items.items c.self.inside.counts c.take.new.self c.self.invariant
    c.args.filter at.0 c.in-Some.queue.now c.push.new.self (at.1 []) c.in-Err.ensures.err
    (back c.self.inside.counts c.add.new.self c.take.new.self c.args.entry.visit c.in_ok-add.ensures.ok c.take.ensures)

pub invariant_of-self-in_default-push : goal.invariant_of-self-in_default-push
invariant_of-self-in_default-push c =
    let at = c.in-Some.ensures.item.3 in
    entry_added c.self.inside.queues.items c.self.inside.items.items c.self.inside.counts c.add.new.self c.self.invariant
    c.args.filter at.0 c.in-Some.queue.now c.push.new.self (at.1 []) c.args.entry c.in_default-push.ensures.ok
    c.in_ok-add.ensures.ok
