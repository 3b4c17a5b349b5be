use Rattle.flt_cert.proofs.FixedWidthLaws.{Compared}
use Rattle.flt_cert.proofs.fixed_width.are_in_bounds.Given as goal

abbrev pub invariant-loop-place : goal.invariant-loop-place
invariant-loop-place l = Compared l.within l.bytes l.place
