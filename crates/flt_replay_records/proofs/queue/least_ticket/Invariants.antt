use Rattle.std.proofs.Common.{take}
use Rattle.flt_replay_records.specs.Tickets.{IsLeast}
use Rattle.flt_replay_records.proofs.queue.least_ticket.Given as goal

abbrev pub invariant-loop-visit : goal.invariant-loop-visit
invariant-loop-visit l = IsLeast l.entries (take l.visit-index l.visits) l.least
