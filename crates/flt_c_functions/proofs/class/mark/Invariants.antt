use Rattle.std.proofs.Common.{◌≡◌, length}
use Rattle.flt_c_functions.specs.Classes.{marked}
use Rattle.flt_c_functions.proofs.class.mark.Given as goal

abbrev pub invariant-loop-rest : goal.invariant-loop-rest
invariant-loop-rest l = marked l.fn.types l.fn.found.items ≡ marked l.rest l.found.items

abbrev pub decreases-loop-rest : goal.decreases-loop-rest
decreases-loop-rest l = length l.rest
