use Rattle.flt_explain_runs.specs.Quiet.{quieted}
use Rattle.flt_explain_runs.proofs.Reports.{block_whole}
use Rattle.flt_explain_runs.proofs.printing.Printer.block.Goals as goal

pub returns : goal.returns
returns c = record {
  report = c.in_ok-report.report.items;
  drawn = c.in_ok-report.ensures;
  rows = c.in_ok-own.own.rows.items;
  are = c.in_ok-own.ensures.rows;
  again = c.in_ok-again.again.rows.items;
  more = c.in_ok-again.ensures.rows;
  whole = block_whole (quieted c.in_ok-report.report.items) c.in_ok-own.own.line.items (quieted c.in_ok-own.own.rows.items)
      c.in_ok-again.again.line.items (quieted c.in_ok-again.again.rows.items) _ _ c.in_ok-own.ensures.line c.in_ok-again.ensures.line;
}
