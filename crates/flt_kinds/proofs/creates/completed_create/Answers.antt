use Rattle.flt_kinds.proofs.Opens.{found}
use Rattle.flt_kinds.proofs.creates.completed_create.Goals as goal

pub returns : goal.returns
returns c = found _ _ c.completed_in.ensures
