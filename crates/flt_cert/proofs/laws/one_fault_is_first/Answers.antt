use Rattle.flt_cert.proofs.Formats.{fault_once, no_fault}
use Rattle.flt_cert.proofs.laws.one_fault_is_first.Goals as goal

pub returns : goal.returns
returns c = record { one = fault_once; none = no_fault }
