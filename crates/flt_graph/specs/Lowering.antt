-- From a tree to its points.
use Rattle.std.specs.Prelude.{◌≡◌, ℕ, ◌+◌, List, [], ◌∷◌, ◌++◌, length, map}
use Rattle.flt_tree.specs.Filter.{head_place}
use Rattle.flt_tree.specs.Measures.{points_of, points}
use Rattle.flt_tree.specs.declared.filter.Callback.{Callback}
use Rattle.flt_tree.specs.declared.filter.Filter.{Filter}
use Rattle.flt_tree.specs.declared.filter.Lock.{Lock}
use Rattle.flt_tree.specs.declared.filter.Statement.{Statement, out-Statement}
use Rattle.flt_graph.specs.Codes.{block_code}
use Rattle.flt_graph.specs.Graph.{point_in}
use Rattle.flt_graph.specs.Points.{entry, point_of, In}
use Rattle.flt_graph.specs.declared.graph.CallbackGraph.{CallbackGraph}
use Rattle.flt_graph.specs.declared.graph.Graph.{Graph}
use Rattle.flt_graph.specs.declared.graph.Point.{Point}
use Rattle.flt_graph.specs.declared.instruction.Instruction.TheVariants as instruction

-- the end of a callback's body, which stands at the closing brace
abbrev pub end_of : Callback → Point
end_of c = record { span = c.end; instruction = instruction.End }

-- a callback has the point of each of its statements, whose next one is where the text goes on, and one for its end
pub record IsGraphOf (all : List Callback) (c : Callback) (g : CallbackGraph) : Type 0 where
  pub place : g.place ≡ head_place c.head
  pub count : length g.points ≡ points c.body + 1
  pub statements : (s : Statement) (rest follows : List Statement) (n q : ℕ) → In c.body (s ∷ rest) n q follows →
      point_in g n ≡ point_of all (out-Statement s) n (entry rest (n + points_of s) q)
  pub end : point_in g (points c.body) ≡ end_of c

-- callbacks of a filter with these ones in all, and their graphs in the same order
abbrev pub AreGraphsOf : List Callback → List Callback → List CallbackGraph → Type 0
AreGraphsOf all [] [] = Unit {0}
AreGraphsOf all (c ∷ cs) (g ∷ gs) = IsGraphOf all c g × AreGraphsOf all cs gs
AreGraphsOf all _ _ = ⊥

-- the graph has a filter's locks and the points of its callbacks
pub record IsLowered (f : Filter) (g : Graph) : Type 0 where
  pub locks : g.locks ≡ map (λ (l : Lock). l.kind) f.locks
  pub callbacks : AreGraphsOf f.callbacks f.callbacks g.callbacks

-- ---- the graph of a filter, by computing

abbrev pub callback_graph_of : List Callback → Callback → CallbackGraph
callback_graph_of all c = record { place = head_place c.head; points = block_code all c.body 0 (points c.body) ++ end_of c ∷ [] }

abbrev pub graph_of : Filter → Graph
graph_of f = record { locks = map (λ (l : Lock). l.kind) f.locks; callbacks = map (callback_graph_of f.callbacks) f.callbacks }
