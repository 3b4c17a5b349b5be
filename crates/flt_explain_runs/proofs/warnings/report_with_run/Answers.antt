use Rattle.std.proofs.Common.{rules}
use Rattle.flt_explain_runs.proofs.warnings.report_with_run.Goals as goal

pub returns : goal.returns
returns g c = record {
  run = c.in_ok-below.below.items;
  are = rw c.as_slice.ensures at c.in_ok-below.ensures;
  whole = search rules;
}
