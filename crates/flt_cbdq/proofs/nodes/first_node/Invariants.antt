use Rattle.std.proofs.Common.{◌≡◌, ℕ, take, find}
use Rattle.ilist_core.specs.NodeLists.{nodes_of}
use Rattle.flt_cbdq.specs.Queues.{is_of}
use Rattle.flt_cbdq.specs.Kept.{entry_at}
use Rattle.flt_cbdq.proofs.nodes.first_node.Given as goal

abbrev pub invariant-loop-visit : goal.invariant-loop-visit
invariant-loop-visit l = l.found ≡ find (λ (node : ℕ). is_of (take l.visit-index l.visits) (entry_at l.entries node))
    (nodes_of l.lists.lists l.list)
