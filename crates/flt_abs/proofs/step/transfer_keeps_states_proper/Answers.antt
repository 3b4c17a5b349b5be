use Rattle.flt_abs.proofs.ProperStates.{transfer_proper}
use Rattle.flt_abs.proofs.step.transfer_keeps_states_proper.Goals as goal

pub returns : goal.returns
returns c = transfer_proper
