use Rattle.flt_explain_runs.specs.Printing.{look_of}
use Rattle.flt_explain_runs.proofs.Reports.{known_part, other_part, unread_part}
use Rattle.flt_explain_runs.proofs.printing.Printer.report.Goals as goal

pub returns-in-Unread : goal.returns-in-Unread
returns-in-Unread g c =
    unread_part (look_of c.args.self.now) _ c.args.self.now.files.now c.args.studied.now c.in-Unread.fault c.unread_report.result
    c.in-Unread.is c.unread_report.ensures.print c.unread_report.ensures.notes

pub returns-in-Other : goal.returns-in-Other
returns-in-Other g c =
    other_part (look_of c.args.self.now) _ c.args.self.now.files.now c.args.studied.now c.in-Other.kind c.other_report.result
    c.in-Other.is c.other_report.ensures.print c.other_report.ensures.notes

pub returns-in-Known : goal.returns-in-Known
returns-in-Known g c =
    known_part (look_of c.args.self.now) _ c.args.self.now.files.now c.args.studied.now c.in-Known.place c.parsed_report.result
    c.in-Known.is c.parsed_report.ensures.print c.parsed_report.ensures.notes
