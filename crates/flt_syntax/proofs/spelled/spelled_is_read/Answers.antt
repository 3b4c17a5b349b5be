use Rattle.flt_syntax.proofs.CompleteFiles.{is_found}
use Rattle.flt_syntax.proofs.EndTexts.{is_spelled}
use Rattle.flt_syntax.proofs.spelled.spelled_is_read.Goals as goal

pub returns : goal.returns
returns c = record { read = is_found; spelled = is_spelled }
