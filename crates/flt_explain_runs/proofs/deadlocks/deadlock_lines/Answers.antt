use Rattle.std.proofs.Common.{rules}
use Rattle.flt_explain_runs.proofs.deadlocks.deadlock_lines.Goals as goal

pub returns : goal.returns
returns c = record {
  rows = c.as_bytes.result.now;
  are = rw c.as_bytes.ensures.value c.in_ok-rows.ensures;
  whole = search rules;
}
