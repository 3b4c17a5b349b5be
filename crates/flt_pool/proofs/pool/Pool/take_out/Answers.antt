use Rattle.flt_pool.proofs.Steps.{takes}
use Rattle.flt_pool.proofs.pool.Pool.take_out.Goals as goal

pub steal_as-requires-clause-rule : goal.steal_as-requires-clause-rule
steal_as-requires-clause-rule g c = (takes _ _, λ views h at. tt)
