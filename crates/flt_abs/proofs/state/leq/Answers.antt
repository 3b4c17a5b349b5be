use Rattle.flt_abs.proofs.Order.{below_meaning}
use Rattle.flt_abs.proofs.state.leq.Goals as goal

pub returns-clause-meaning : goal.returns-clause-meaning
returns-clause-meaning c = rw c.is_below.ensures (below_meaning c.args.a.now c.args.b.now c.contexts-sets.ensures.proper)
