use Rattle.std.proofs.Common.{◌≡◌, map, take}
use Rattle.flt_c_headers.specs.Reading.{rebased}
use Rattle.flt_c_headers.proofs.reading.rebased.Given as goal

abbrev pub invariant-loop-token : goal.invariant-loop-token
invariant-loop-token l = l.found.items ≡ map (rebased l.base) (take l.token-index l.tokens)
