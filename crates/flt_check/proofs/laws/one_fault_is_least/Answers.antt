use Rattle.flt_check.proofs.Least.{least_once}
use Rattle.flt_check.proofs.laws.one_fault_is_least.Goals as goal

pub returns : goal.returns
returns c = least_once
