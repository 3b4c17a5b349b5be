use Rattle.std.proofs.Common.{get_or, take}
use Rattle.std.proofs.lemmas.List.{take_more}
use Rattle.flt_replay_records.proofs.Queues.Tickets.{least_on}
use Rattle.flt_replay_records.proofs.queue.least_ticket.Goals as goal

pub loop-visit-preserved : goal.loop-visit-preserved
loop-visit-preserved c =
    let visits = c.args.visits.now in
    let i = c.loop-visit.visit-index in
    rw (take_more visits i 0 c.loop-visit-test.true, c.lesser-least.ensures)
    (least_on c.args.entries.now (take i visits) (get_or visits i 0) c.loop-visit.least c.first_ticket.result c.loop-visit.invariant
    c.first_ticket.ensures)
