use Rattle.flt_starts.proofs.Running.{law, never}
use Rattle.flt_starts.proofs.laws.unasked_callbacks_never_start.Goals as goal

pub returns : goal.returns
returns c = record { law = law; never = never }
