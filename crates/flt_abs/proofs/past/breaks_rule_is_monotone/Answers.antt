use Rattle.flt_abs.proofs.Monotone.{breaks_grow}
use Rattle.flt_abs.proofs.past.breaks_rule_is_monotone.Goals as goal

pub returns : goal.returns
returns c = breaks_grow
