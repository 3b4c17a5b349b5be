use Rattle.flt_cancel.proofs.Balance.{none_invented}
use Rattle.flt_cancel.proofs.laws.none_invented.Goals as goal

pub returns : goal.returns
returns c = none_invented
