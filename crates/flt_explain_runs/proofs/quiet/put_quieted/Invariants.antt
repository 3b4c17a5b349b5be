use Rattle.std.proofs.Common.{◌≡◌, ◌++◌, drop}
use Rattle.flt_explain_runs.specs.Quiet.{quieted, quieted_from}
use Rattle.flt_explain_runs.proofs.quiet.put_quieted.Given as goal

abbrev pub invariant-loop-at : goal.invariant-loop-at
invariant-loop-at l = l.out.items ++ quieted_from l.begins (drop l.at l.lines) ≡ l.initial.out.items ++ quieted l.lines
