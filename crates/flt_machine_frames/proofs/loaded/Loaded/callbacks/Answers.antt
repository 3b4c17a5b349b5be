use Rattle.std.proofs.Common.{sym, ap}
use Rattle.flt_graph.specs.declared.graph.Graph.{Graph}
use Rattle.flt_machine_frames.proofs.Filters.{no_graph_at}
use Rattle.flt_machine_frames.proofs.loaded.Loaded.callbacks.Goals as goal

pub returns-in-None : goal.returns-in-None
returns-in-None c =
    sym (ap (λ (g : Graph). g.callbacks) (no_graph_at c.args.self.now.graphs c.args.filter (sym c.in-None.ensures.value)))
