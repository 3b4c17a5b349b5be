use Rattle.flt_pool.proofs.Counting.{none_taken_twice, same_means_equal}
use Rattle.flt_pool.proofs.laws.none_taken_twice.Goals as goal

pub returns-clause-balance : goal.returns-clause-balance
returns-clause-balance c = none_taken_twice

pub returns-clause-same : goal.returns-clause-same
returns-clause-same c = same_means_equal
