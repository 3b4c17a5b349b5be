use Rattle.flt_explain_runs.specs.Printing.{look_of}
use Rattle.flt_explain_runs.proofs.Reports.{notice_parts}
use Rattle.flt_explain_runs.proofs.printing.Printer.other_report.Goals as goal

pub returns-clause-print : goal.returns-clause-print
returns-clause-print c =
    notice_parts (look_of c.args.self.now) c.args.self.now.stage.trees.now c.args.source c.args.kind c.in_ok-notice.notice
    c.notice_report.result c.requires.other (rw c.stack.ensures at c.in_ok-notice.ensures) c.notice_report.ensures.print
