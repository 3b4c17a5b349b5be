use Rattle.std.proofs.Common.{◌≡◌, ◌+◌, drop}
use Rattle.flt_tree.specs.Measures.{points}
use Rattle.flt_graph.proofs.lowering.+size.Given as goal

abbrev pub invariant-total-loop-statement : goal.invariant-total-loop-statement
invariant-total-loop-statement l = l.sum + points (drop l.statement-index l.body) ≡ points l.body
