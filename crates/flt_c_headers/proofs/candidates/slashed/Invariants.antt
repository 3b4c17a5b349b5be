use Rattle.std.proofs.Common.{◌≡◌, map, take}
use Rattle.flt_c_headers.specs.Candidates.{slashed_byte}
use Rattle.flt_c_headers.proofs.candidates.slashed.Given as goal

abbrev pub invariant-loop-b : goal.invariant-loop-b
invariant-loop-b l = l.found.items ≡ map slashed_byte (take l.b-index l.name)
