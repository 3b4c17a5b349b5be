use Rattle.std.proofs.Common.{◌≡◌, ◌+◌, false, [], replicate}
use Rattle.std.specs.FinSet.{empty}
use Rattle.flt_ctx.proofs.contexts.Contexts.new.Given as goal

abbrev pub invariant-loop : goal.invariant-loop
invariant-loop l = record {
  lists : l.lists.lists ≡ replicate l.counter [];
  nodes : l.lists.nodes ≡ empty;
  closed : l.closed.items ≡ replicate l.counter false;
  granted : l.heap ≡ l.fn.heap;
}

abbrev pub invariant-loop-2 : goal.invariant-loop-2
invariant-loop-2 l = record {
  lists : l.lists.lists ≡ replicate (l.fn.filters + l.counter) [];
  nodes : l.lists.nodes ≡ empty;
  granted : l.heap ≡ l.fn.heap;
}
