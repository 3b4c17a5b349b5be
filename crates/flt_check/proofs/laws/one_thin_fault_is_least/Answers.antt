use Rattle.flt_check.proofs.Thin.Once.{thin_fault_once}
use Rattle.flt_check.proofs.laws.one_thin_fault_is_least.Goals as goal

pub returns : goal.returns
returns c = thin_fault_once c.one_fault_is_least.ensures
