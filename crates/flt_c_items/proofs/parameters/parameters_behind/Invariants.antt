use Rattle.std.proofs.Common.{◌≡◌, ◌++◌, length}
use Rattle.flt_c_items.specs.Declarators.{no_declarator, parameters_from}
use Rattle.flt_c_items.proofs.parameters.parameters_behind.Given as goal

abbrev pub invariant-loop-rest : goal.invariant-loop-rest
invariant-loop-rest l =
    parameters_from l.fn.words no_declarator l.fn.tokens ≡ l.found ++ parameters_from l.fn.words l.d l.rest

abbrev pub decreases-loop-rest : goal.decreases-loop-rest
decreases-loop-rest l = length l.rest
