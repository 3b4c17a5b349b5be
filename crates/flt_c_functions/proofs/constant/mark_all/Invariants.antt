use Rattle.std.proofs.Common.{◌≡◌, length}
use Rattle.flt_c_functions.specs.Constants.{all_marked}
use Rattle.flt_c_functions.proofs.constant.mark_all.Given as goal

abbrev pub invariant-loop-rest : goal.invariant-loop-rest
invariant-loop-rest l = all_marked l.define l.fn.tokens l.fn.forms.items ≡ all_marked l.define l.rest l.forms.items

abbrev pub decreases-loop-rest : goal.decreases-loop-rest
decreases-loop-rest l = length l.rest
