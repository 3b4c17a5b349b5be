use Rattle.std.proofs.Common.{refl}
use Rattle.flt_explain_runs.specs.Printing.{look_of}
use Rattle.flt_explain_runs.specs.declared.parts.Body.TheVariants.{Lines}
use Rattle.flt_explain_runs.specs.declared.parts.TextReport.{TextReport}
use Rattle.flt_explain_runs.proofs.Reports.{unread_print}
use Rattle.flt_explain_runs.proofs.printing.Printer.unread_report.Goals as goal

pub returns-clause-print : goal.returns-clause-print
returns-clause-print c =
    let p : TextReport = record {
      body = Lines c.in_ok-lines.lines;
      closing = c.in_ok-closing.closing;
      tally = record { status = 2; findings = 1 };
    } in
    unread_print (look_of c.args.self.now) c.args.source c.args.fault c.in_ok-lines.lines.items p c.requires.unread c.in_ok-lines.ensures
    refl c.in_ok-closing.ensures refl refl
