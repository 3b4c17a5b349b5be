use Rattle.flt_model.proofs.CleanRuns.{stopped_is_told, broken_is_told}
use Rattle.flt_model.proofs.laws.first_faults_are_told.Goals as goal

pub returns : goal.returns
returns c = record { stopped = stopped_is_told; broken = broken_is_told }
