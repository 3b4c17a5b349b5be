use Rattle.flt_explain.specs.Pending.{IsClear}
use Rattle.flt_explain.proofs.walk.first.Given as goal

abbrev pub invariant-loop-place : goal.invariant-loop-place
invariant-loop-place l = IsClear l.place l.flags
