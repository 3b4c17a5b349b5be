use Rattle.flt_pool.proofs.Steps.{takes, pops}
use Rattle.flt_pool.proofs.deque.Deque.pop.Goals as goal

pub pop_as-requires-clause-fifo : goal.pop_as-requires-clause-fifo
pop_as-requires-clause-fifo c fifo = takes _ _

pub pop_as-requires-clause-lifo : goal.pop_as-requires-clause-lifo
pop_as-requires-clause-lifo c lifo = pops _ _
