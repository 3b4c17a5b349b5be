use Rattle.flt_abs.proofs.Order.{below_from, below_means}
use Rattle.flt_abs.proofs.state.is_partial_order.Goals as goal

pub returns-clause-computed : goal.returns-clause-computed
returns-clause-computed c = below_means

pub returns-clause-decided : goal.returns-clause-decided
returns-clause-decided c = below_from
