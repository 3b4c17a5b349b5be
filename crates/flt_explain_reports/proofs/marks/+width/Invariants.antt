use Rattle.flt_explain_reports.proofs.marks.+width.Given as goal

abbrev pub decreases-width : goal.decreases-width
decreases-width l = l.number
