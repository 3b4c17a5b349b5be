use Rattle.std.proofs.Common.{◌≡◌, replicate, []}
use Rattle.flt_machine_store.proofs.store.all_unheld.Given as goal

abbrev pub invariant-loop : goal.invariant-loop
invariant-loop l = record {
  holders : l.holders.items ≡ replicate l.counter (replicate 8 []);
  granted : l.heap ≡ l.fn.heap;
}
