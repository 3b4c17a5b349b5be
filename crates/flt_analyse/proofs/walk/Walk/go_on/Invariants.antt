use Rattle.std.proofs.Common.{◌≢◌, ◌≤◌, ◌+◌, ℕ}
use Rattle.flt_analyse.specs.Walk.{Leads, opening}
use Rattle.flt_analyse.proofs.Stages.{due}
use Rattle.flt_analyse.proofs.Walks.{Stage, room}
use Rattle.flt_analyse.proofs.walk.Walk.go_on.Given as goal

abbrev pub invariant-looks : goal.invariant-looks
invariant-looks g l = record {
  stage : Stage l.graph l.callback l.self;
  led : (n : ℕ) × Leads l.graph l.callback n (opening l.graph l.callback) l.self;
  own : l.ticks + due l.self g.row.POINT ≤ l.fn.ticks + 31;
  other : g.row.CALLBACK ≢ l.callback → l.ticks ≤ l.fn.ticks;
}

abbrev pub decreases-looks : goal.decreases-looks
decreases-looks g l = room l.graph l.callback l.self
