use Rattle.std.proofs.Common.{◌≡◌, drop}
use Rattle.flt_c_macros.specs.Bodies.{has_name}
use Rattle.flt_c_macros.proofs.body.has_name.Given as goal

abbrev pub invariant-loop-token : goal.invariant-loop-token
invariant-loop-token l = has_name l.name l.body ≡ has_name l.name (drop l.token-index l.body)
