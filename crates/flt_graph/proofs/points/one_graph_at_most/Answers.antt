use Rattle.flt_graph.proofs.PointsOfText.{lowered_once}
use Rattle.flt_graph.proofs.points.one_graph_at_most.Goals as goal

pub returns : goal.returns
returns c = lowered_once
