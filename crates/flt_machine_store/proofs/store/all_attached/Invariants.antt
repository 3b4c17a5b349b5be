use Rattle.std.proofs.Common.{◌≡◌, replicate}
use Rattle.flt_model.specs.declared.parts.Presence.TheVariants.{Attached}
use Rattle.flt_machine_store.proofs.store.all_attached.Given as goal

abbrev pub invariant-loop : goal.invariant-loop
invariant-loop l = record {
  presences : l.presences.items ≡ replicate l.counter Attached;
  granted : l.heap ≡ l.fn.heap;
}
