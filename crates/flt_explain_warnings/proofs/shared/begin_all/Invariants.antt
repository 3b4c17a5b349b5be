use Rattle.std.proofs.Common.{◌≡◌, ◌-◌}
use Rattle.flt_explain_warnings.specs.Shared.{begun_from, all_begun}
use Rattle.flt_explain_warnings.proofs.shared.begin_all.Given as goal

-- what the points that are left mark is what all mark
abbrev pub invariant-loop-point : goal.invariant-loop-point
invariant-loop-point l =
    begun_from l.graph l.callback l.sharing l.point (l.point-end - l.point) l.marks ≡ all_begun l.graph l.callback l.sharing l.fn.marks
