use Rattle.flt_check.proofs.Points.{none_in_more}
use Rattle.flt_check.proofs.checker.first_fault.Goals as goal

pub loop-callback-preserved : goal.loop-callback-preserved
loop-callback-preserved c = (
  c.loop-callback.invariant.0,
  none_in_more _ _ _ c.loop-callback.invariant.1 (c.in_default-callback_fault.ensures.none),
)
