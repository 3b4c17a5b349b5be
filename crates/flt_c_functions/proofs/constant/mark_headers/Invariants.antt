use Rattle.std.proofs.Common.{◌≡◌, length}
use Rattle.flt_c_functions.specs.Constants.{headers_marked}
use Rattle.flt_c_functions.proofs.constant.mark_headers.Given as goal

abbrev pub invariant-loop-rest : goal.invariant-loop-rest
invariant-loop-rest l = headers_marked l.define l.fn.headers l.fn.forms.items ≡ headers_marked l.define l.rest l.forms.items

abbrev pub decreases-loop-rest : goal.decreases-loop-rest
decreases-loop-rest l = length l.rest
