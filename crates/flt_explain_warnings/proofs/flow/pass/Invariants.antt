use Rattle.std.proofs.Common.{◌≡◌, ◌-◌, false}
use Rattle.flt_explain_warnings.specs.Flow.{followed_from, passed}
use Rattle.flt_explain_warnings.proofs.flow.pass.Given as goal

-- what the points that are left mark is what all mark, and nothing has changed where nothing is new
abbrev pub invariant-loop-point : goal.invariant-loop-point
invariant-loop-point l = record {
  rest : followed_from l.graph l.callback l.trail l.point (l.point-end - l.point) l.marks ≡ passed l.graph l.callback l.trail l.fn.marks;
  same : l.is_new ≡ false → l.marks ≡ l.fn.marks;
}
