use Rattle.flt_abs.proofs.Outcomes.{situations_followed}
use Rattle.flt_abs.proofs.outcome.transfer_follows_situations.Goals as goal

pub returns : goal.returns
returns c = situations_followed
