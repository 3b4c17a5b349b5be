use Rattle.std.proofs.Common.{◌≡◌, ◌++◌, drop}
use Rattle.flt_c_drift.specs.Line.{lines_of}
use Rattle.flt_c_drift.proofs.line.lines_of.Given as goal

abbrev pub invariant-loop-drift : goal.invariant-loop-drift
invariant-loop-drift l =
    l.out.items ++ lines_of l.name l.file (drop l.drift-index l.drifts) ≡ lines_of l.name l.file l.drifts
