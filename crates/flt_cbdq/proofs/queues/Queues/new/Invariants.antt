use Rattle.std.proofs.Common.{◌≡◌, false, [], length, map, replicate}
use Rattle.flt_cbdq.specs.declared.queues.Queue.{Queue}
use Rattle.flt_cbdq.specs.Kept.{disabled_of}
use Rattle.flt_cbdq.proofs.queues.Queues.new.Given as goal

abbrev pub invariant-loop : goal.invariant-loop
invariant-loop l = record {
  count : length l.queues.items ≡ l.counter;
  lists : l.lists.lists ≡ replicate l.counter [];
  unnoted : map (λ (q : Queue). q.nodes) l.queues.items ≡ replicate l.counter [];
  enabled : disabled_of l.queues.items ≡ replicate l.counter false;
  granted : l.heap ≡ l.fn.heap;
}
