use Rattle.std.proofs.Common.{◌≡◌, ◌≤◌, ◌+◌, drop}
use Rattle.flt_explain_runs.specs.Lines.{arrivals}
use Rattle.flt_explain_runs.proofs.lines.arrivals.Given as goal

abbrev pub invariant-loop-entry : goal.invariant-loop-entry
invariant-loop-entry l = record {
  counted : l.count + arrivals (drop l.entry-index l.entries) ≡ arrivals l.entries;
  within : l.count ≤ l.entry-index;
}
