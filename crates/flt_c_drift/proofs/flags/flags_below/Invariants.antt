use Rattle.std.proofs.Common.{drop}
use Rattle.flt_c_drift.proofs.Raising.{AreFlags}
use Rattle.flt_c_drift.proofs.flags.flags_below.Given as goal

abbrev pub invariant-loop-mark : goal.invariant-loop-mark
invariant-loop-mark l = AreFlags l.question l.marks l.count l.found.items (drop l.mark-index l.marks)
