use Rattle.flt_check.proofs.Thin.Accepted.{NoneDiffers}
use Rattle.flt_check.proofs.thin_checker.count_fault.Given as goal

abbrev pub invariant-loop-callback : goal.invariant-loop-callback
invariant-loop-callback l = NoneDiffers l.graph l.thin l.callback
