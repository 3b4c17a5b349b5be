use Rattle.std.proofs.Common.{◌≡◌, drop}
use Rattle.flt_c_drift.specs.Drifts.{first_guard}
use Rattle.flt_c_drift.proofs.stretch.first_guard.Given as goal

abbrev pub invariant-loop-mark : goal.invariant-loop-mark
invariant-loop-mark l = first_guard l.call (drop l.mark-index l.marks) ≡ first_guard l.call l.marks
