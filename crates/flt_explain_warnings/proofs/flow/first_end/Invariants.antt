use Rattle.std.proofs.Common.{◌≡◌, ◌-◌}
use Rattle.flt_explain_warnings.specs.Flow.{first_end_from, first_end}
use Rattle.flt_explain_warnings.proofs.flow.first_end.Given as goal

-- what the points that are left have is what all have
abbrev pub invariant-loop-point : goal.invariant-loop-point
invariant-loop-point l =
    first_end_from l.graph l.callback l.trail l.marks l.point (l.point-end - l.point) ≡ first_end l.graph l.callback l.trail l.marks
