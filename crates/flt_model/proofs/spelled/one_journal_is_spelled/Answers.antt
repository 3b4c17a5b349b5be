use Rattle.flt_model.proofs.SpelledOnce.{spelled_once}
use Rattle.flt_model.proofs.spelled.one_journal_is_spelled.Goals as goal

pub returns : goal.returns
returns c = spelled_once
