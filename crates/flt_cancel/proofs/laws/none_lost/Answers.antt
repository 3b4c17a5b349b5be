use Rattle.flt_cancel.proofs.Histories.{answered}
use Rattle.flt_cancel.proofs.laws.none_lost.Goals as goal

pub returns : goal.returns
returns c = answered
