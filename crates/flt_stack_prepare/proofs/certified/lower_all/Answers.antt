use Rattle.flt_graph.specs.Lowering.{IsLowered}
use Rattle.flt_stack_prepare.proofs.Firsts.{zipped_more}
use Rattle.flt_stack_prepare.proofs.certified.lower_all.Goals as goal

pub loop-tree-preserved : goal.loop-tree-preserved
loop-tree-preserved c =
    zipped_more c.args.trees.now c.loop-tree.tree-index c.tree-item.result _ c.loop-tree-test.true c.tree-item.is
    IsLowered c.loop-tree.graphs.items _ c.in_ok-lower.field-0 c.loop-tree.invariant c.in_ok-lower.ensures c.in_ok-push.ensures.items
