-- One more tree is well-formed.
use Rattle.flt_tests.proofs.Trees.{one_more}
use Rattle.flt_tests.proofs.scene.trees_of.Goals as goal

pub loop-text-preserved : goal.loop-text-preserved
loop-text-preserved c =
    one_more c.loop-text.trees.items _ c.in_ok-tree.tree c.loop-text.invariant c.in_ok-tree.ensures.well_formed
    c.in_ok-push.ensures.items
