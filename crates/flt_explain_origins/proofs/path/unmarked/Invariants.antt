use Rattle.std.proofs.Common.{◌≡◌, replicate}
use Rattle.flt_explain_origins.specs.Search.{unmarked}
use Rattle.flt_explain_origins.proofs.path.unmarked.Given as goal

abbrev pub invariant-loop-point : goal.invariant-loop-point
invariant-loop-point l = l.marks ≡ replicate l._point unmarked
