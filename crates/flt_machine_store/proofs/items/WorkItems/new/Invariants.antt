use Rattle.std.proofs.Common.{◌≡◌, replicate}
use Rattle.flt_machine_store.proofs.items.WorkItems.new.Given as goal

abbrev pub invariant-loop : goal.invariant-loop
invariant-loop l = record {
  counts : l.waiting.items ≡ replicate l.counter 0;
  granted : l.heap ≡ l.fn.heap;
}
