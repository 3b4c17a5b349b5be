use Rattle.std.proofs.Common.{length, refl}
use Rattle.flt_explain_runs.specs.Printing.{look_of}
use Rattle.flt_explain_runs.specs.declared.parts.TextReport.{TextReport}
use Rattle.flt_explain_runs.proofs.Reports.{known_print}
use Rattle.flt_explain_runs.proofs.printing.Printer.known_report.Goals as goal

pub returns-clause-print : goal.returns-clause-print
returns-clause-print g c =
    let p : TextReport = record {
      body = c.in_ok-body.body;
      closing = c.in_ok-closing.closing;
      tally = record { status = c.warned_status.result; findings = length c.args.known.found.now };
    } in
    known_print c.texts_without_circles_are_orderly.ensures (look_of c.args.self.now) c.args.self.now.stage.trees.now
    c.args.self.now.files.now c.args.known c.args.details.now p c.requires.known
    c.in_ok-body.ensures.print c.in_ok-body.ensures.notes c.in_ok-closing.ensures c.warned_status.ensures refl
