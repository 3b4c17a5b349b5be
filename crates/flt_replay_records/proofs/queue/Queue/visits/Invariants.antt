use Rattle.std.proofs.Common.{◌≡◌, map, take}
use Rattle.flt_model.specs.declared.parts.Entry.{Entry}
use Rattle.flt_replay_records.specs.Tickets.{present}
use Rattle.flt_replay_records.proofs.queue.Queue.visits.Given as goal

abbrev pub invariant-loop-ticket : goal.invariant-loop-ticket
invariant-loop-ticket l = l.visits.items ≡ map (λ (e : Entry). e.visit) (present (take l.ticket l.self-inside.entries.items))
