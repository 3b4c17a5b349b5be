use Rattle.flt_graph.proofs.Costs.{stands_cost}
use Rattle.flt_graph.proofs.Nesting.{turns_nested}
use Rattle.flt_graph.proofs.RemainingTurns.{whole_with, next_with, left_with}
use Rattle.flt_graph.proofs.turns.lists_have_turns.Goals as goal

pub returns : goal.returns
returns c = record { whole = whole_with; next = next_with; left = left_with; cost = stands_cost; nested = turns_nested }
