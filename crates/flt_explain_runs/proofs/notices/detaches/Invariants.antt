use Rattle.std.proofs.Common.{◌≡◌, drop}
use Rattle.flt_explain_runs.specs.Notices.{detaches, detaches_from}
use Rattle.flt_explain_runs.proofs.notices.detaches.Given as goal

abbrev pub invariant-loop-at : goal.invariant-loop-at
invariant-loop-at l = detaches_from l.begins_line (drop l.at l.script) ≡ detaches l.script
