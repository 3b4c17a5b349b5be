use Rattle.std.proofs.Common.{◌≡◌, ◌++◌, length}
use Rattle.flt_c_functions.specs.Options.{with_value}
use Rattle.flt_c_functions.proofs.option.put_value.Given as goal

abbrev pub invariant-loop-rest : goal.invariant-loop-rest
invariant-loop-rest l = l.fn.out.items ++ with_value l.fn.text ≡ l.out.items ++ with_value l.rest

abbrev pub decreases-loop-rest : goal.decreases-loop-rest
decreases-loop-rest l = length l.rest
