use Rattle.flt_pool.proofs.Steps.{puts}
use Rattle.flt_pool.proofs.pool.Pool.put.Goals as goal

pub push_as-requires-clause-rule : goal.push_as-requires-clause-rule
push_as-requires-clause-rule g c = puts _ _ _
