use Rattle.std.proofs.Common.{◌≡◌}
use Rattle.std.specs.Prelude.{replicate, false}
use Rattle.flt_explain_warnings.proofs.flow.blank.Given as goal

abbrev pub invariant-loop-point : goal.invariant-loop-point
invariant-loop-point l = l.marks ≡ replicate l._point false
