use Rattle.std.proofs.Common.{◌≡◌, ◌++◌, length}
use Rattle.flt_c_macros.specs.Bodies.{apart}
use Rattle.flt_c_macros.proofs.body.apart.Given as goal

abbrev pub invariant-loop-left : goal.invariant-loop-left
invariant-loop-left l = apart l.rest 0 l.body ≡ l.tokens ++ apart l.rest l.joint l.left

abbrev pub decreases-loop-left : goal.decreases-loop-left
decreases-loop-left l = length l.left
