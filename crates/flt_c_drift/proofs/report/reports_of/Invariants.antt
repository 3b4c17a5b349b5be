use Rattle.std.proofs.Common.{◌≡◌, ◌++◌, drop}
use Rattle.flt_c_drift.specs.Report.{reports_of}
use Rattle.flt_c_drift.proofs.report.reports_of.Given as goal

abbrev pub invariant-loop-drift : goal.invariant-loop-drift
invariant-loop-drift l =
    l.out.items ++ reports_of l.name l.file (drop l.drift-index l.drifts) ≡ reports_of l.name l.file l.drifts
