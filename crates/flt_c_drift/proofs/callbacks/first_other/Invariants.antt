use Rattle.std.proofs.Common.{◌≡◌, drop}
use Rattle.flt_c_drift.specs.Drifts.{first_other}
use Rattle.flt_c_drift.proofs.callbacks.first_other.Given as goal

abbrev pub invariant-loop-mark : goal.invariant-loop-mark
invariant-loop-mark l = first_other (drop l.mark-index l.all) ≡ first_other l.all
