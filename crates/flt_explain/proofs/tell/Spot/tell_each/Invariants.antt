use Rattle.std.proofs.Common.{◌≡◌, drop}
use Rattle.flt_explain.specs.Told.{at_point}
use Rattle.flt_explain.specs.Walk.{locks_told_of}
use Rattle.flt_explain.proofs.tell.Spot.tell_each.Given as goal

abbrev pub invariant-loop-lock : goal.invariant-loop-lock
invariant-loop-lock l = record {
  told : locks_told_of l.self l.differ (drop l.lock-index l.locks) l.findings ≡ locks_told_of l.self l.differ l.locks l.initial.findings;
  here : l.here ≡ at_point l.self.callback l.self.point l.findings;
}
