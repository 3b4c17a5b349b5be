use Rattle.std.proofs.Common.{◌≡◌, ◌≤◌, ◌-◌, [], take, length}
use Rattle.flt_replay_records.specs.Tickets.{present}
use Rattle.flt_replay_records.proofs.queue.next_left.Given as goal

abbrev pub invariant-loop-ticket : goal.invariant-loop-ticket
invariant-loop-ticket l = record {
  within : l.from ≤ length l.entries → l.ticket ≤ length l.entries;
  taken : present (take l.from l.entries) ≡ [] → present (take l.ticket l.entries) ≡ [];
}

abbrev pub decreases-loop-ticket : goal.decreases-loop-ticket
decreases-loop-ticket l = length l.entries - l.ticket
