use Rattle.flt_abs.proofs.Order.{below_itself, below_chain, joined_left, joined_right, join_within, join_proper}
use Rattle.flt_abs.proofs.state.joins_are_least.Goals as goal

pub returns-clause-reflexive : goal.returns-clause-reflexive
returns-clause-reflexive c = below_itself

pub returns-clause-transitive : goal.returns-clause-transitive
returns-clause-transitive c = below_chain

pub returns-clause-left : goal.returns-clause-left
returns-clause-left c = joined_left

pub returns-clause-right : goal.returns-clause-right
returns-clause-right c = joined_right

pub returns-clause-least : goal.returns-clause-least
returns-clause-least c = join_within

pub returns-clause-proper : goal.returns-clause-proper
returns-clause-proper c = join_proper
