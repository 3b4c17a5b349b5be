use Rattle.flt_graph.proofs.PointsOfText.{edges_rise}
use Rattle.flt_graph.proofs.points.edges_lead_onwards.Goals as goal

pub returns : goal.returns
returns c = edges_rise
