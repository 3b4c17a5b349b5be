use Rattle.flt_check.specs.Checker.{NoneBefore}
use Rattle.flt_check.proofs.checker.callback_fault.Given as goal

abbrev pub invariant-loop-point : goal.invariant-loop-point
invariant-loop-point l = NoneBefore l.graph l.cert l.callback l.point
