use Rattle.std.proofs.Common.{◌≡◌, ◌++◌, drop}
use Rattle.flt_c_drift.specs.Drifts.{drifts_in}
use Rattle.flt_c_drift.proofs.drift.put_marks.Given as goal

abbrev pub invariant-loop-mark : goal.invariant-loop-mark
invariant-loop-mark l =
    l.out.items ++ drifts_in l.callbacks l.stretch (drop l.mark-index l.marks)
    ≡ l.initial.out.items ++ drifts_in l.callbacks l.stretch l.marks
