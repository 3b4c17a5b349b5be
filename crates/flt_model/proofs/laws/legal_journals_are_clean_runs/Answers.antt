use Rattle.flt_model.proofs.CleanRuns.{legal_is_clean}
use Rattle.flt_model.proofs.laws.legal_journals_are_clean_runs.Goals as goal

pub returns : goal.returns
returns c = record { law = legal_is_clean }
