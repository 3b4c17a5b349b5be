use Rattle.std.proofs.Common.{◌≡◌, length}
use Rattle.flt_c_functions.specs.Bare.{bare_table}
use Rattle.flt_c_functions.proofs.bare.bare_table.Given as goal

abbrev pub invariant-loop-rest : goal.invariant-loop-rest
invariant-loop-rest l = bare_table l.fn.words l.fn.tokens ≡ bare_table l.fn.words l.rest

abbrev pub decreases-loop-rest : goal.decreases-loop-rest
decreases-loop-rest l = length l.rest
