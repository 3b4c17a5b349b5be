use Rattle.flt_explain_waits.proofs.Listing.{settled_too}
use Rattle.flt_explain_waits.proofs.waits.settle_all.Goals as goal

pub loop-a-preserved : goal.loop-a-preserved
loop-a-preserved c = settled_too _ _ _ c.loop-a.a c.loop-a.invariant c.in_ok-settle.ensures.settled
