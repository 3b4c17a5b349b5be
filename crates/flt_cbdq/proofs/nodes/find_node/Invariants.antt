use Rattle.std.proofs.Common.{◌≡◌, ℕ, length, find, IfSome, Contains}
use Rattle.ilist_core.specs.NodeLists.{nodes_of, nodes_from}
use Rattle.flt_cbdq.specs.Queues.{is_of}
use Rattle.flt_cbdq.specs.Kept.{entry_at}
use Rattle.flt_cbdq.proofs.nodes.find_node.Given as goal

abbrev pub invariant-loop-at : goal.invariant-loop-at
invariant-loop-at l =
    let nodes = nodes_of l.fn.lists.lists l.fn.list in
    let test = λ (node : ℕ). is_of l.visits (entry_at l.entries node) in
    record {
      within : IfSome l.at (Contains nodes);
      same : find test nodes ≡ find test (nodes_from nodes l.at);
    }

abbrev pub decreases-loop-at : goal.decreases-loop-at
decreases-loop-at l = length (nodes_from (nodes_of l.fn.lists.lists l.fn.list) l.at)
