use Rattle.std.proofs.Common.{◌<◌, length, arith, ◌∙◌}
use Rattle.std.proofs.lemmas.Grind.{common_steps}
use Rattle.flt_replay_records.proofs.Queues.Tickets.{listed_on}
use Rattle.flt_replay_records.proofs.queue.Queue.visits.Goals as goal

pub loop-ticket-preserved : goal.loop-ticket-preserved
loop-ticket-preserved c =
    let entries = c.self.inside.entries.items in
    let ticket = c.loop-ticket.ticket in
    let within : ticket < length entries = grind (arith, common_steps) in
    let more = rw c.as_slice.ensures.value at c.in_ok-list_visit.ensures in
    more ∙ listed_on entries ticket c.loop-ticket.visits.items within c.loop-ticket.invariant
