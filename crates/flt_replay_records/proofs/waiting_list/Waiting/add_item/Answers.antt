use Rattle.flt_replay_records.proofs.Counting.{back}
use Rattle.flt_replay_records.proofs.Queues.CountWaiting.{same_counts}
use Rattle.flt_replay_records.proofs.waiting_list.Waiting.add_item.Goals as goal

pub invariant_of-self-in-Err : goal.invariant_of-self-in-Err
invariant_of-self-in-Err c =
    same_counts c.self.inside.queues.items c.self.inside.items.items c.self.inside.counts c.take.new.self c.self.invariant
    c.push.new.self.items c.in-Err.ensures.items
    (back c.self.inside.counts c.add.new.self c.take.new.self c.in-Some.visit c.in_ok-add-in-Some.ensures.ok c.take.ensures)
