use Rattle.std.proofs.Common.{take}
use Rattle.flt_replay.specs.Ledger.{Halted}
use Rattle.flt_replay.proofs.ledger.Ledger.follow_ends.Given as goal

abbrev pub invariant-loop-event : goal.invariant-loop-event
invariant-loop-event l = Halted (take l.event-index l.events) l.initial.self l.self l.initial.touched.items l.touched.items
