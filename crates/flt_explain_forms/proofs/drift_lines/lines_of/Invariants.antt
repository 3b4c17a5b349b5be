use Rattle.std.proofs.Common.{◌≡◌, take}
use Rattle.flt_explain_forms.specs.DriftLines.{lines_of}
use Rattle.flt_explain_forms.proofs.drift_lines.lines_of.Given as goal

abbrev pub invariant-loop-drift : goal.invariant-loop-drift
invariant-loop-drift l = l.out.items ≡ lines_of l.name l.file (take l.drift-index l.drifts)
