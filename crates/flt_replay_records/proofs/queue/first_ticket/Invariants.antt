use Rattle.std.proofs.Common.{◌≡◌, ◌<◌, ◌≤◌, ℕ, false}
use Rattle.flt_replay_records.specs.Tickets.{stands}
use Rattle.flt_replay_records.proofs.queue.first_ticket.Given as goal

abbrev pub invariant-loop-ticket : goal.invariant-loop-ticket
invariant-loop-ticket l = (t : ℕ) → l.start ≤ t → t < l.ticket → stands l.entries l.visit t ≡ false
