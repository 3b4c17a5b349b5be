use Rattle.std.proofs.Common.{◌≡◌, ◌++◌, ◌-◌}
use Rattle.flt_explain_warnings.specs.Shared.{used_from, used_in}
use Rattle.flt_explain_warnings.proofs.shared.add_marked.Given as goal

-- what was found, with what the points that are left have, is what all points have
abbrev pub invariant-loop-point : goal.invariant-loop-point
invariant-loop-point l =
    l.uses ++ used_from l.graph l.callback l.sharing l.marks l.point (l.point-end - l.point)
    ≡ l.fn.uses ++ used_in l.graph l.callback l.sharing l.marks
