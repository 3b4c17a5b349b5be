use Rattle.std.proofs.Common.{◌≡◌, drop}
use Rattle.flt_c_drift.specs.Drifts.{first_answer}
use Rattle.flt_c_drift.proofs.stretch.first_answer.Given as goal

abbrev pub invariant-loop-mark : goal.invariant-loop-mark
invariant-loop-mark l = first_answer (drop l.mark-index l.stretch) ≡ first_answer l.stretch
