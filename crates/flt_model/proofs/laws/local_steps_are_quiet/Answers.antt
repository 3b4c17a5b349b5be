use Rattle.flt_model.proofs.LocalLaws.{local_silent, local_alone, local_breaks}
use Rattle.flt_model.proofs.laws.local_steps_are_quiet.Goals as goal

pub returns : goal.returns
returns c = record { events = local_silent; alone = local_alone; breaks = local_breaks }
