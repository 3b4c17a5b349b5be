use Rattle.std.proofs.Common.{take}
use Rattle.flt_explain_runs.specs.Warned.{warned_of}
use Rattle.flt_explain_runs.specs.Warnings.{AreShownReports}
use Rattle.flt_explain_runs.proofs.warnings.shown_reports.Given as goal

abbrev pub invariant-loop-detail : goal.invariant-loop-detail
invariant-loop-detail g l = AreShownReports (warned_of l.text) (take l.detail-index l.details) l.out.items
