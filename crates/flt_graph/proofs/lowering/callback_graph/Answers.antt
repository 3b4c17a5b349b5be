use Rattle.std.proofs.Common.{◌≡◌, ◌++◌, ◌∙◌, ◌∷◌, [], List, ap}
use Rattle.flt_graph.proofs.Places.{graph_made}
use Rattle.flt_graph.proofs.lowering.callback_graph.Goals as goal
use Rattle.flt_graph.specs.Lowering.{end_of}
use Rattle.flt_graph.specs.declared.graph.Point.{Point}

pub returns : goal.returns
returns c =
    let none : c.reserve.new.self.items ≡ [] = c.reserve.ensures.items ∙ c.new-found.ensures.items in
    graph_made c.args.callbacks.now c.args.callback.now (record { place = c.place.result; points = c.from_vec.result })
    c.place.ensures
    (c.from_vec.ensures ∙ (c.in_ok-push_point.ensures ∙ ap (λ (l : List Point). l ++ end_of c.args.callback.now ∷ [])
    (simp (none, c.total-len.ensures, c.as_slice-body.ensures) at c.in_ok-add_block.ensures.points)))
