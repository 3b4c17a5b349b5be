use Rattle.flt_stack_core.proofs.Arriving.{run_arrives}
use Rattle.flt_stack_core.proofs.laws.arrivals_are_operations.Goals as goal

pub returns : goal.returns
returns c = run_arrives
