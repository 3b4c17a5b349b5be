use Rattle.std.proofs.Common.{◌≡◌, ◌-◌, length}
use Rattle.flt_explain.specs.ByPoint.{AreByPoint}
use Rattle.flt_explain.specs.Pending.{IsClear}
use Rattle.flt_explain.specs.Walk.{steps, looks, progress, opened}
use Rattle.flt_explain.proofs.walk.walk_callback.Given as goal

-- what the looks that are left find is what all find, and the findings of the callback are known by their points
abbrev pub invariant-loop-look : goal.invariant-loop-look
invariant-loop-look l = record {
  found : (steps l.graph l.callback (l._look-end - l._look) (progress l.walk l.findings)).found
      ≡ (steps l.graph l.callback (looks l.graph l.callback) (progress (opened l.graph l.callback) l.fn.findings)).found;
  clear : IsClear l.from l.walk.pending;
  wide : length l.by_point.lists ≡ length l.walk.pending;
  by_point : AreByPoint l.callback l.by_point.lists l.findings;
}
