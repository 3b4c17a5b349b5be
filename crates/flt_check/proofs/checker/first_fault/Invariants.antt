use Rattle.flt_check.specs.Checker.{AgreeOnCounts, NoneIn}
use Rattle.flt_check.proofs.checker.first_fault.Given as goal

abbrev pub invariant-loop-callback : goal.invariant-loop-callback
invariant-loop-callback l = AgreeOnCounts l.graph l.cert × NoneIn l.graph l.cert l.callback
