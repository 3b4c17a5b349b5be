use Rattle.std.proofs.Common.{◌≡◌, drop}
use Rattle.flt_c_functions.specs.Places.{told_behind}
use Rattle.flt_c_functions.proofs.place.tell.Given as goal

abbrev pub invariant-loop-number : goal.invariant-loop-number
invariant-loop-number l = told_behind l.fn.told l.fn.headers ≡ told_behind l.told (drop l.number-index l.fn.headers)
