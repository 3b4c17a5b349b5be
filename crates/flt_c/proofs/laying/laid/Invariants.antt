use Rattle.std.proofs.Common.{◌≡◌, ◌++◌, length, true}
use Rattle.flt_c.specs.InPlace.{laid}
use Rattle.flt_c.proofs.laying.laid.Given as goal

abbrev pub invariant-loop-rest : goal.invariant-loop-rest
invariant-loop-rest l = l.out.items ++ laid l.last l.fresh l.rest l.lines ≡ laid 0 true l.bytes l.fn.lines

abbrev pub decreases-loop-rest : goal.decreases-loop-rest
decreases-loop-rest l = length l.rest
