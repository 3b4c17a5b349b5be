use Rattle.std.proofs.Common.{◌≡◌, length}
use Rattle.flt_c_headers.specs.Inclusions.{first_greater}
use Rattle.flt_c_headers.proofs.inclusion.first_greater.Given as goal

abbrev pub invariant-loop-rest : goal.invariant-loop-rest
invariant-loop-rest l = first_greater l.tokens ≡ first_greater l.rest

abbrev pub decreases-loop-rest : goal.decreases-loop-rest
decreases-loop-rest l = length l.rest
