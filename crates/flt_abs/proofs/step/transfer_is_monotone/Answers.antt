use Rattle.flt_abs.proofs.Monotone.{transfer_below}
use Rattle.flt_abs.proofs.step.transfer_is_monotone.Goals as goal

pub returns : goal.returns
returns c = transfer_below
