use Rattle.flt_graph.proofs.Remaining.{first_of_body, first_there, next_there}
use Rattle.flt_graph.proofs.points.lists_have_points.Goals as goal

pub returns : goal.returns
returns c = record { whole = first_of_body; first = first_there; next = next_there }
