-- What isn't there: a callback that isn't there has an empty body, where nothing remains, and its points are the end.
use Rattle.std.proofs.Common.{◌≡◌, ℕ, zero, suc, List, [], ◌∷◌, None, slice_get, slice_index_or, refl, ap}
use Rattle.flt_tree.specs.declared.filter.Callback.{Callback}
use Rattle.flt_tree.specs.declared.filter.Filter.{Filter}
use Rattle.flt_tree.specs.declared.filter.Statement.{Statement}
use Rattle.flt_graph.specs.Graph.{no_callback, point_in, instruction_at}
use Rattle.flt_graph.specs.Lowering.{AreGraphsOf, IsLowered}
use Rattle.flt_graph.specs.Points.{In, top, later, granted_block, refused_block, turn, Stands, end, before, again}
use Rattle.flt_graph.specs.declared.graph.CallbackGraph.{CallbackGraph}
use Rattle.flt_graph.specs.declared.graph.Graph.{Graph}
use Rattle.flt_graph.specs.declared.instruction.Instruction.TheVariants as instruction

some_statement : {A : Type 0} {s : Statement} {rest : List Statement} → s ∷ rest ≡ [] → A
some_statement e = absurd (cc)

-- the blocks of an empty body are empty
only_itself : {block follows : List Statement} {n q : ℕ} → In [] block n q follows → block ≡ []
only_itself top = refl
only_itself (later i) = some_statement (only_itself i)
only_itself (granted_block i is) = some_statement (only_itself i)
only_itself (refused_block i is) = some_statement (only_itself i)
only_itself (turn i is most) = some_statement (only_itself i)

-- nothing remains of an empty body
pub nothing_stands : {list : List Statement} {n : ℕ} → Stands [] n list → list ≡ []
nothing_stands end = refl
nothing_stands (before i) = some_statement (only_itself i)
nothing_stands (again i is most) = some_statement (only_itself i)

-- a callback that isn't there has no graph
no_graph_of : (all cs : List Callback) (gs : List CallbackGraph) (k : ℕ) → AreGraphsOf all cs gs → slice_get cs k ≡ None →
    slice_index_or gs k no_callback ≡ no_callback
no_graph_of all [] [] k made none = refl
no_graph_of all [] (g ∷ gs) k made none = absurd made
no_graph_of all (c ∷ cs) [] k made none = refl
no_graph_of all (c ∷ cs) (g ∷ gs) zero made none = absurd (cc)
no_graph_of all (c ∷ cs) (g ∷ gs) (suc k) made none = no_graph_of all cs gs k made.1 none

-- the end is at each point of a callback that isn't there
pub end_at : (f : Filter) (g : Graph) (k n : ℕ) → IsLowered f g → slice_get f.callbacks k ≡ None → instruction_at g k n ≡ instruction.End
end_at f g k n made none =
    ap (λ (c : CallbackGraph). (point_in c n).instruction) (no_graph_of f.callbacks f.callbacks g.callbacks k made.callbacks none)
