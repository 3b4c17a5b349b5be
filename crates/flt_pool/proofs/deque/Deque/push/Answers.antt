use Rattle.flt_pool.proofs.Steps.{puts}
use Rattle.flt_pool.proofs.deque.Deque.push.Goals as goal

pub push_as-requires-clause-pushes : goal.push_as-requires-clause-pushes
push_as-requires-clause-pushes c = puts _ _ _
