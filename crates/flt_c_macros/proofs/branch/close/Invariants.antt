use Rattle.std.proofs.Common.{◌≡◌, length}
use Rattle.flt_c_macros.specs.Branches.{closed}
use Rattle.flt_c_macros.proofs.branch.close.Given as goal

abbrev pub invariant-loop-group : goal.invariant-loop-group
invariant-loop-group l = closed l.fn.state ≡ closed l.state

abbrev pub decreases-loop-group : goal.decreases-loop-group
decreases-loop-group l = length l.state.groups
