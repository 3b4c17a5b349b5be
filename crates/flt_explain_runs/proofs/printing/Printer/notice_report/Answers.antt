use Rattle.flt_explain_runs.proofs.Reports.{notice_whole}
use Rattle.flt_explain_runs.proofs.printing.Printer.notice_report.Goals as goal

pub returns-clause-print : goal.returns-clause-print
returns-clause-print c = record {
  lines = c.in_ok-lines.lines.items;
  are = rw (c.is_alone-is_alone.ensures, c.name.ensures) at c.in_ok-lines.ensures;
  whole = notice_whole c.args.notice.now c.in_ok-lines.lines c.in_ok-closing.closing c.in_ok-closing.ensures;
  worth = c.status.ensures;
  many = c.faults_in.ensures;
}
