use Rattle.std.proofs.Common.{◌≡◌, ◌++◌, drop, map}
use Rattle.flt_c_functions.specs.Sources.{in_c}
use Rattle.flt_c_functions.proofs.source.in_c.Given as goal

abbrev pub invariant-loop-token : goal.invariant-loop-token
invariant-loop-token l = map in_c l.fn.tokens ≡ l.found.items ++ map in_c (drop l.token-index l.fn.tokens)
