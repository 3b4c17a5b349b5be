use Rattle.flt_explain_reports.proofs.fault_report.report_fault.Goals as goal

pub returns : goal.returns
returns c = record { trouble = _; described = c.in_ok-described.ensures; told = c.in_ok-lines.ensures }
