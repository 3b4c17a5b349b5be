use Rattle.std.proofs.Common.{◌≡◌, ◌-◌, [], length}
use Rattle.flt_explain.specs.ByPoint.{AreBefore}
use Rattle.flt_explain.specs.Walk.{walked_from}
use Rattle.flt_explain.proofs.of_text.walk_from.Given as goal

-- what the walks that are left find is what all find, and what was found is in callbacks before them
abbrev pub invariant-loop-callback : goal.invariant-loop-callback
invariant-loop-callback l = record {
  found : walked_from l.graph l.callback (l.callback-end - l.callback) l.findings
      ≡ walked_from l.graph l.first (length l.graph.callbacks - l.first) [];
  before : AreBefore l.callback l.findings;
}
