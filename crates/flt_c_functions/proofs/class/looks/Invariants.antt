use Rattle.std.proofs.Common.{◌≡◌, map, take}
use Rattle.flt_c_functions.specs.Classes.{look}
use Rattle.flt_c_functions.proofs.class.looks.Given as goal

abbrev pub invariant-loop-number : goal.invariant-loop-number
invariant-loop-number l = l.found.items ≡ map look (take l.number l.fn.spellings)
