use Rattle.std.proofs.Common.{◌≡◌, ◌++◌, drop}
use Rattle.flt_cert.proofs.thinning.same_thin.Given as goal

abbrev pub invariant-loop-slots : goal.invariant-loop-slots
invariant-loop-slots l = l.callbacks ++ drop l.slots-index l.thin ≡ l.thin
