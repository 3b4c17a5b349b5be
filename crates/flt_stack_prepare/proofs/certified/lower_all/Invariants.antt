use Rattle.std.proofs.Common.{take}
use Rattle.std.specs.List.{AllZip}
use Rattle.flt_graph.specs.Lowering.{IsLowered}
use Rattle.flt_model.specs.Program.{filters_of}
use Rattle.flt_stack_prepare.proofs.certified.lower_all.Given as goal

abbrev pub invariant-loop-tree : goal.invariant-loop-tree
invariant-loop-tree l = AllZip IsLowered (filters_of (take l.tree-index l.trees)) l.graphs.items
