use Rattle.std.proofs.Common.{◌≡◌, ◌≤◌, count_by, take}
use Rattle.flt_explain_timeline.specs.Course.{is_arrival}
use Rattle.flt_explain_timeline.proofs.running.arrivals.Given as goal

-- how many arrive of the entries so far
abbrev pub invariant-loop-entry : goal.invariant-loop-entry
invariant-loop-entry l = record {
  so_far : l.arrivals ≡ count_by is_arrival (take l.entry-index l.entries);
  within : l.arrivals ≤ l.entry-index;
}
