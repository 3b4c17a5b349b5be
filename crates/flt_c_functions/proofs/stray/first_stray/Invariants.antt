use Rattle.std.proofs.Common.{◌≡◌, drop}
use Rattle.flt_c_functions.specs.Strays.{first_stray}
use Rattle.flt_c_functions.proofs.stray.first_stray.Given as goal

abbrev pub invariant-loop-token : goal.invariant-loop-token
invariant-loop-token l = first_stray l.fn.tokens ≡ first_stray (drop l.token-index l.fn.tokens)
