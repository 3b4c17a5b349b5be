use Rattle.std.proofs.Common.{◌≡◌, ◌++◌}
use Rattle.flt_c_drift.specs.Report.{row_of}
use Rattle.flt_c_drift.proofs.report.put_row.Given as goal

abbrev pub invariant-loop-at : goal.invariant-loop-at
invariant-loop-at l = l.out.items ≡ l.initial.out.items ++ row_of l.byte l._at
