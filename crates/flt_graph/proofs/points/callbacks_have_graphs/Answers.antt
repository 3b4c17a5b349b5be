use Rattle.flt_graph.proofs.Remaining.{callbacks_counted, callbacks_there}
use Rattle.flt_graph.proofs.points.callbacks_have_graphs.Goals as goal

pub returns : goal.returns
returns c = record { count = callbacks_counted; each = callbacks_there }
