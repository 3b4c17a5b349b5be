use Rattle.std.proofs.Common.{◌≡◌, ◌++◌, drop, map}
use Rattle.flt_c_functions.specs.Sources.{in_c}
use Rattle.flt_c_functions.proofs.source.headers_in_c.Given as goal

abbrev pub invariant-loop-tokens : goal.invariant-loop-tokens
invariant-loop-tokens l = map (map in_c) l.fn.headers ≡ l.found.items ++ map (map in_c) (drop l.tokens-index l.fn.headers)
