use Rattle.std.proofs.Common.{length}
use Rattle.flt_c_functions.proofs.Writing.{Written}
use Rattle.flt_c_functions.proofs.listing.put_sources.Given as goal

abbrev pub invariant-loop-rest : goal.invariant-loop-rest
invariant-loop-rest l =
    Written l.fn.spellings l.fn.headers.files l.fn.known l.fn.sources l.fn.out.items l.rest l.told l.out.items l.is_whole

abbrev pub decreases-loop-rest : goal.decreases-loop-rest
decreases-loop-rest l = length l.rest
