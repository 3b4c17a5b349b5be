use Rattle.std.proofs.Common.{rules}
use Rattle.flt_explain_runs.proofs.warnings.promise_and_warnings.Goals as goal

pub returns : goal.returns
returns g c = record {
  reports = c.in_ok-reports.reports.items;
  are = c.in_ok-reports.ensures;
  whole = search rules;
}
