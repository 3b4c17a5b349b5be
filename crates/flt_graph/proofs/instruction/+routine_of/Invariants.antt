use Rattle.std.proofs.Common.{length}
use Rattle.flt_graph.proofs.instruction.+routine_of.Given as goal

abbrev pub decreases-routine_of : goal.decreases-routine_of
decreases-routine_of l = length l.callbacks.now
