use Rattle.flt_explain_waits.proofs.Stuck.{all_stuck}
use Rattle.flt_explain_waits.proofs.laws.what_waits_is_stuck.Goals as goal

pub returns : goal.returns
returns c p m n = all_stuck p m n
