use Rattle.std.proofs.Common.{◌≡◌, ◌++◌, length}
use Rattle.flt_c_items.specs.Declarators.{names, names_from}
use Rattle.flt_c_items.proofs.parameters.names.Given as goal

abbrev pub invariant-loop-rest : goal.invariant-loop-rest
invariant-loop-rest l = names l.fn.tokens ≡ l.found ++ names_from l.d l.rest

abbrev pub decreases-loop-rest : goal.decreases-loop-rest
decreases-loop-rest l = length l.rest
