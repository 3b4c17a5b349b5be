use Rattle.std.proofs.Common.{◌≡◌, ℕ, false, List, take}
use Rattle.flt_model.specs.declared.event.Event.{Event}
use Rattle.flt_replay.specs.Apart.{ends_in}
use Rattle.flt_replay.specs.Ledger.{Tells, IsCounted, Judged}
use Rattle.flt_replay.proofs.ledger.Ledger.take_events.Given as goal

abbrev pub invariant-loop-event : goal.invariant-loop-event
invariant-loop-event l = record {
  judged : (t : List Event) → Tells t l.initial.self → IsCounted l.initial.self →
      Judged l.world t (take l.event-index l.events) l.initial.self l.self l.initial.touched.items l.touched.items l.kept.tight l.kept.once;
  ends : l.kept.ends ≡ false → (a : ℕ) → ends_in a (take l.event-index l.events) ≡ false;
}
