use Rattle.std.proofs.Common.{◌≡◌, drop}
use Rattle.flt_c_functions.specs.Places.{is_among}
use Rattle.flt_c_functions.proofs.place.is_among.Given as goal

abbrev pub invariant-loop-other : goal.invariant-loop-other
invariant-loop-other l = is_among l.fn.numbers l.fn.number ≡ is_among (drop l.other-index l.fn.numbers) l.fn.number
