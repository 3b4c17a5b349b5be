use Rattle.flt_replay_records.proofs.Queues.Tickets.{no_tickets}
use Rattle.flt_replay_records.proofs.queue.Queue.new.Goals as goal

pub invariant_of-result : goal.invariant_of-result
invariant_of-result c = no_tickets c.new.result.items c.new-2.result c.new-3.result c.new.ensures.items c.new-3.ensures.no_count
