use Rattle.std.proofs.Common.{ℕ, ◌<◌, get_or}
use Rattle.flt_graph.specs.declared.graph.Graph.{Graph}
use Rattle.flt_stack.specs.Ordering.{IsOrdered}
use Rattle.flt_stack.proofs.lowered.are_ordered.Given as goal

abbrev pub invariant-loop-number : goal.invariant-loop-number
invariant-loop-number l = (k : ℕ) (d : Graph) → k < l.number → IsOrdered (get_or l.graphs k d)
