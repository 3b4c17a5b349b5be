use Rattle.std.proofs.Common.{◌≡◌, ◌++◌, drop}
use Rattle.flt_explain_ways.specs.Tracing.{traced_from}
use Rattle.flt_explain_ways.proofs.tracing.grouped.Given as goal

abbrev pub invariant-loop-finding : goal.invariant-loop-finding
invariant-loop-finding l = record {
  number : l.number ≡ l.finding-index;
  traced : l.all ++ traced_from l.finding-index (drop l.finding-index l.found) l.shown ≡ traced_from 0 l.found l.shown;
}
