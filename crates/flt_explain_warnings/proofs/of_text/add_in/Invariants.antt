use Rattle.std.proofs.Common.{◌≡◌, ◌++◌, ◌-◌}
use Rattle.flt_explain_warnings.specs.Warnings.{warned_from, warned_in}
use Rattle.flt_explain_warnings.proofs.of_text.add_in.Given as goal

-- what was found, with what the points that are left have, is what all points have
abbrev pub invariant-loop-point : goal.invariant-loop-point
invariant-loop-point l =
    l.warnings ++ warned_from l.graph l.cert l.uses l.kind l.callback l.point (l.point-end - l.point)
    ≡ l.fn.warnings ++ warned_in l.graph l.cert l.uses l.kind l.callback
