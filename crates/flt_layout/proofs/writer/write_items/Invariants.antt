use Rattle.std.proofs.Common.{length}
use Rattle.flt_layout.proofs.Steps.{IsSoFar}
use Rattle.flt_layout.proofs.writer.write_items.Given as goal

abbrev pub invariant-loop-rest : goal.invariant-loop-rest
invariant-loop-rest l = IsSoFar l.fn.text l.out.items l.state l.space l.rest l.left

abbrev pub decreases-loop-rest : goal.decreases-loop-rest
decreases-loop-rest l = length l.rest
