use Rattle.flt_model.proofs.FirstFaults.{same_fault, no_fault}
use Rattle.flt_model.proofs.laws.one_first_fault_at_most.Goals as goal

pub returns : goal.returns
returns c = record { one = same_fault; none = no_fault }
