use Rattle.std.proofs.Common.{◌≡◌, drop}
use Rattle.flt_explain_reports.specs.MarkOrder.{all_placed}
use Rattle.flt_explain_reports.specs.WarningReport.{related_marks}
use Rattle.flt_explain_reports.proofs.warning_report.add_related.Given as goal

abbrev pub invariant-loop-number : goal.invariant-loop-number
invariant-loop-number l =
    all_placed l.marks.items (related_marks l.lines l.number (drop l.number l.related))
    ≡ all_placed l.initial.marks.items (related_marks l.lines 0 l.related)
