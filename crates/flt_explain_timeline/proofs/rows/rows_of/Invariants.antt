use Rattle.std.proofs.Common.{◌≡◌, ◌≤◌, ◌+◌, ◌++◌, drop}
use Rattle.flt_explain_timeline.specs.Rows as spec
use Rattle.flt_explain_timeline.proofs.rows.rows_of.Given as goal

-- the rows so far end where the one begins that isn't closed, and the others come after them
abbrev pub invariant-loop-next : goal.invariant-loop-next
invariant-loop-next l = record {
  covered : spec.Cover 0 l.rows l.row.first;
  some : 1 ≤ l.row.count;
  ends : l.row.first + l.row.count ≡ l.next-index + 1;
  exact : l.rows ++ spec.rows_after l.row.first l.row.count l.last (drop l.next-index l.rest) ≡ spec.rows_after 0 1 l.initial.last l.rest;
}
