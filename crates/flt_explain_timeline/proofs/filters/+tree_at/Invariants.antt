use Rattle.std.proofs.Common.{length}
use Rattle.flt_explain_timeline.proofs.filters.+tree_at.Given as goal

abbrev pub decreases-tree_at : goal.decreases-tree_at
decreases-tree_at l = length l.trees.now
