use Rattle.std.proofs.Common.{◌≡◌, drop}
use Rattle.flt_c_macros.specs.Bodies.{has_sign}
use Rattle.flt_c_macros.proofs.body.has_sign.Given as goal

abbrev pub invariant-loop-token : goal.invariant-loop-token
invariant-loop-token l = has_sign l.body ≡ has_sign (drop l.token-index l.body)
