use Rattle.flt_kinds.proofs.Deciding.{exclusive}
use Rattle.flt_kinds.proofs.kinds.kinds_exclude_mixtures.Goals as goal

pub returns : goal.returns
returns c = exclusive
