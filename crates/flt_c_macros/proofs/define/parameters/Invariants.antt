use Rattle.std.proofs.Common.{◌≡◌, length}
use Rattle.flt_c_macros.specs.Definitions.{parameters, parameter}
use Rattle.flt_c_macros.proofs.define.parameters.Given as goal

abbrev pub invariant-loop-left : goal.invariant-loop-left
invariant-loop-left l = parameters l.rest l.line ≡ parameter l.rest l.found l.left

abbrev pub decreases-loop-left : goal.decreases-loop-left
decreases-loop-left l = length l.left
