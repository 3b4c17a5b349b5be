use Rattle.flt_cancel.proofs.Histories.{one_history}
use Rattle.flt_cancel.proofs.laws.one_history.Goals as goal

pub returns : goal.returns
returns c = one_history
