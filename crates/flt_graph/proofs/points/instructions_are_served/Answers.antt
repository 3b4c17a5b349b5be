use Rattle.flt_graph.proofs.PointsOfText.{instructions_served}
use Rattle.flt_graph.proofs.points.instructions_are_served.Goals as goal

pub returns : goal.returns
returns c = instructions_served
