use Rattle.std.proofs.Common.{◌≡◌, ◌++◌, length}
use Rattle.flt_c_functions.specs.Classes.{names_in}
use Rattle.flt_c_functions.proofs.class.add_names_in.Given as goal

abbrev pub invariant-loop-rest : goal.invariant-loop-rest
invariant-loop-rest l = l.fn.found.items ++ names_in l.fn.items ≡ l.found.items ++ names_in l.rest

abbrev pub decreases-loop-rest : goal.decreases-loop-rest
decreases-loop-rest l = length l.rest
