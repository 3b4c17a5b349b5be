use Rattle.flt_graph.proofs.Lowerings.{lowered_of}
use Rattle.flt_graph.proofs.points.filters_have_graphs.Goals as goal

pub returns : goal.returns
returns c = lowered_of
