use Rattle.flt_c_syntax.proofs.Laws.{only_one}
use Rattle.flt_c_syntax.proofs.body.spells_at_most_one.Goals as goal

pub returns : goal.returns
returns c = only_one
