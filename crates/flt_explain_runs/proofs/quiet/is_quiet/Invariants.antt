use Rattle.std.proofs.Common.{◌≡◌, drop}
use Rattle.flt_explain_runs.specs.Quiet.{is_quiet, is_quiet_from}
use Rattle.flt_explain_runs.proofs.quiet.is_quiet.Given as goal

abbrev pub invariant-loop-at : goal.invariant-loop-at
invariant-loop-at l = is_quiet_from l.begins (drop l.at l.lines) ≡ is_quiet l.lines
