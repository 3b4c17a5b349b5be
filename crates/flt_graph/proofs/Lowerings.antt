-- The graphs of callbacks: of one more, and of all that a filter has.
use Rattle.std.proofs.Common.{◌≡◌, ℕ, ◌+◌, ◌<◌, List, [], ◌∷◌, ◌++◌, length, map, take, get_or, refl}
use Rattle.std.proofs.lemmas.List.{take_more}
use Rattle.flt_tree.specs.declared.filter.Callback.{Callback}
use Rattle.flt_tree.specs.declared.filter.Filter.{Filter}
use Rattle.flt_graph.specs.Lowering.{IsGraphOf, AreGraphsOf, IsLowered, callback_graph_of, graph_of}
use Rattle.flt_graph.specs.declared.graph.CallbackGraph.{CallbackGraph}
use Rattle.flt_graph.proofs.Places.{graph_made}

graphs_push : (all cs : List Callback) (gs : List CallbackGraph) (c : Callback) (g : CallbackGraph) → AreGraphsOf all cs gs →
    IsGraphOf all c g → AreGraphsOf all (cs ++ c ∷ []) (gs ++ g ∷ [])
graphs_push all [] [] c g made one = (one, tt)
graphs_push all (x ∷ cs) (y ∷ gs) c g made one = (made.0, graphs_push all cs gs c g made.1 one)
graphs_push all [] (y ∷ gs) c g made one = absurd made
graphs_push all (x ∷ cs) [] c g made one = absurd made

-- one more callback has its graph
pub graphs_more : (all cs : List Callback) (gs : List CallbackGraph) (i : ℕ) (c : Callback) (g : CallbackGraph) →
    AreGraphsOf all (take i cs) gs → i < length cs → c ≡ get_or cs i c → IsGraphOf all c g →
    AreGraphsOf all (take (i + 1) cs) (gs ++ g ∷ [])
graphs_more all cs gs i c g made below is one = rw (take_more cs i c below, ← is) (graphs_push all (take i cs) gs c g made one)

graphs_of : (all cs : List Callback) → AreGraphsOf all cs (map (callback_graph_of all) cs)
graphs_of all [] = tt
graphs_of all (c ∷ cs) = (graph_made all c (callback_graph_of all c) refl refl, graphs_of all cs)

-- what is computed is a filter's graph
pub lowered_of : (f : Filter) → IsLowered f (graph_of f)
lowered_of f = record { locks = refl; callbacks = graphs_of f.callbacks f.callbacks }
