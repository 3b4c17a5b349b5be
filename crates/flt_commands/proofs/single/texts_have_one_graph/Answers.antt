use Rattle.flt_commands.proofs.OneDecision.{graph_once}
use Rattle.flt_commands.proofs.single.texts_have_one_graph.Goals as goal

pub returns : goal.returns
returns c = graph_once c.spells_at_most_one.ensures c.spelled_is_well_formed.ensures c.one_graph_at_most.ensures
