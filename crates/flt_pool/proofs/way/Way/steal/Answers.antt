use Rattle.flt_pool.proofs.Steps.{takes}
use Rattle.flt_pool.proofs.way.Way.steal.Goals as goal

pub steal_as-requires-clause-takes : goal.steal_as-requires-clause-takes
steal_as-requires-clause-takes g c = takes _ _
