-- Which remaining lists stand where, and what is there.
use Rattle.std.proofs.Common.{◌≡◌, ℕ, zero, suc, ◌+◌, ◌≤◌, Bool, true, false, List, [], ◌∷◌, length, slice_get}
use Rattle.std.proofs.Common.{slice_index_or, ◌++◌, Option, Some, None, ap, sym, subst, refl, arith}
use Rattle.std.proofs.lemmas.List.{append-nil}
use Rattle.flt_tree.specs.Filter.{no_span}
use Rattle.flt_tree.specs.Measures.{points_of}
use Rattle.flt_tree.specs.declared.filter.Callback.{Callback}
use Rattle.flt_tree.specs.declared.filter.Condition.{Condition}
use Rattle.flt_tree.specs.declared.filter.Condition.TheVariants as condition
use Rattle.flt_tree.specs.declared.filter.Filter.{Filter}
use Rattle.flt_tree.specs.declared.filter.Span.{Span}
use Rattle.flt_tree.specs.declared.filter.Statement.{Statement, out-Statement}
use Rattle.flt_tree.specs.declared.filter.Statement.TheOpen.{Statement-F}
use Rattle.flt_tree.specs.declared.filter.Statement.TheViews.{outs-Repeat}
use Rattle.flt_graph.specs.Graph.{point_in, no_callback, callback_at}
use Rattle.flt_graph.specs.Lowering.{IsGraphOf, AreGraphsOf, IsLowered, end_of}
use Rattle.flt_graph.specs.Points.{entry, instruction_of, choice, In, top, later, granted_block, refused_block, turn, Stands, end}
use Rattle.flt_graph.specs.Points.{before, again, remaining_turns, remaining_of, remaining, successor, StandsAt, IsLeftOf, IsFirst}
use Rattle.flt_graph.specs.declared.graph.CallbackGraph.{CallbackGraph}
use Rattle.flt_graph.specs.declared.graph.Graph.{Graph}
use Rattle.flt_graph.specs.declared.instruction.Instruction.TheVariants as instruction

-- ---- where remaining lists stand

-- a block stands at its first statement, or where what follows it stands
stands_of : {body follows : List Statement} {n q : ℕ} (block : List Statement) → In body block n q follows →
    Stands body q follows → Stands body (entry block n q) (block ++ follows)
stands_of [] i u = u
stands_of (s ∷ rest) i u = before i

-- what follows a block stands at its point
unwind : {body block follows : List Statement} {n q : ℕ} → In body block n q follows → Stands body q follows
unwind top = end
unwind (later i) = unwind i
unwind (granted_block {rest = rest} i o) = stands_of rest (later i) (unwind i)
unwind (refused_block {rest = rest} i o) = stands_of rest (later i) (unwind i)
unwind (turn i o h) = again i o h

stands : {body follows : List Statement} {n q : ℕ} (block : List Statement) → In body block n q follows →
    Stands body (entry block n q) (block ++ follows)
stands block i = stands_of block i (unwind i)

-- ---- what is there

-- a callback's body is at point 0
pub first_of_body : (body : List Statement) → Stands body 0 body
first_of_body [] = end
first_of_body (s ∷ rest) = subst (λ (l : List Statement). Stands (s ∷ rest) 0 (s ∷ l)) (append-nil rest) (before top)

left_of_self : (s : Statement-F Statement) → IsLeftOf s s
left_of_self (Statement-F.Act span action) = refl
left_of_self (Statement-F.Call span call) = refl
left_of_self (Statement-F.Return span status) = refl
left_of_self (Statement-F.If span asked granted refused) = refl
left_of_self (Statement-F.Repeat span turns block) = (turns, (omega arith, refl))

-- a list that is at a point begins with the point's instruction
pub first_there : (all : List Callback) (c : Callback) (g : CallbackGraph) (p : ℕ) (list : List Statement) → IsGraphOf all c g →
    Stands c.body p list → IsFirst all (end_of c) p list (point_in g p)
first_there all c g p list made end = made.end
first_there all c g p list made (before {s = s} {rest = rest} {n = n} {q = q} {follows = follows} i) =
    (out-Statement s, (entry rest (n + points_of s) q, (left_of_self (out-Statement s), made.statements s rest follows n q i)))
first_there all c g p list made (again {s = s} {rest = rest} {block = block} {span = span} {turns = turns} {left = left} {n = n}
    {q = q} {follows = follows} i o h) = (
      out-Statement s,
      (
        entry rest (n + points_of s) q,
        (
          subst (λ (x : Statement-F Statement). IsLeftOf x (out-Statement s)) (sym (outs-Repeat span left block)) (turns, (h, o)),
          made.statements s rest follows n q i,
        ),
      ),
    )

-- ---- where it leads

choice_leads : {body : List Statement} {yes_at no_at : ℕ} (granted refused follows : List Statement) (all : List Callback)
    (asked : Condition) (outcome : Bool) →
    Stands body yes_at (granted ++ follows) → Stands body no_at (refused ++ follows) →
    StandsAt body (successor (choice all asked yes_at no_at) outcome)
    (remaining_of (Statement-F.If no_span asked granted refused) follows outcome)
choice_leads granted refused follows all (condition.Test t) true u v = u
choice_leads granted refused follows all (condition.Test t) false u v = v
choice_leads granted refused follows all (condition.Succeeds c) true u v = u
choice_leads granted refused follows all (condition.Succeeds c) false u v = v

turns_lead : {body rest follows block : List Statement} {s : Statement} {span : Span} {turns n q : ℕ} (left : ℕ) (outcome : Bool) →
    In body (s ∷ rest) n q follows → out-Statement s ≡ Statement-F.Repeat span turns block → left ≤ turns →
    StandsAt body (successor (instruction.Repeat turns (entry block (n + 1) n) (entry rest (n + points_of s) q)) outcome)
    (remaining_turns span left block (rest ++ follows) outcome)
turns_lead zero true i o h = tt
turns_lead {rest = rest} zero false i o h = stands rest (later i)
turns_lead {block = block} (suc left) true i o h = stands block (turn i o (omega arith))
turns_lead (suc left) false i o h = tt

layer_leads : {body rest follows : List Statement} {s : Statement} {n q : ℕ} (all : List Callback) (layer : Statement-F Statement)
    (outcome : Bool) → In body (s ∷ rest) n q follows → out-Statement s ≡ layer →
    StandsAt body (successor (instruction_of all layer n (entry rest (n + points_of s) q)) outcome)
    (remaining_of layer (rest ++ follows) outcome)
layer_leads {rest = rest} all (Statement-F.Act span action) outcome i o = stands rest (later i)
layer_leads {rest = rest} all (Statement-F.Call span call) true i o = stands rest (later i)
layer_leads {rest = rest} all (Statement-F.Call span call) false i o = stands rest (later i)
layer_leads all (Statement-F.Return span status) outcome i o = tt
layer_leads {rest = rest} {follows = follows} all (Statement-F.If span asked granted refused) outcome i o =
    choice_leads granted refused (rest ++ follows) all asked outcome (stands granted (granted_block i o))
    (stands refused (refused_block i o))
layer_leads all (Statement-F.Repeat span turns block) outcome i o = turns_lead turns outcome i o (omega arith)

at_end : (body : List Statement) (p : Option ℕ) → StandsAt body p None
at_end body None = tt
at_end body (Some p) = tt

-- what remains after a first statement is at its successor
pub next_there : (all : List Callback) (c : Callback) (g : CallbackGraph) (p : ℕ) (list : List Statement) (outcome : Bool) →
    IsGraphOf all c g → Stands c.body p list →
    StandsAt c.body (successor (point_in g p).instruction outcome) (remaining list outcome)
next_there all c g p list outcome made end = at_end c.body (successor (point_in g p).instruction outcome)
next_there all c g p list outcome made (before {s = s} {rest = rest} {n = n} {q = q} {follows = follows} i) =
    rw (made.statements s rest follows n q i) (layer_leads all (out-Statement s) outcome i refl)
next_there all c g p list outcome made
    (again {s = s} {rest = rest} {block = block} {span = span} {turns = turns} {left = left} {n = n} {q = q} {follows = follows} i o h) =
    rw (made.statements s rest follows n q i, o, outs-Repeat span left block) (turns_lead left outcome i o h)

-- ---- the callbacks of a filter

pub graphs_count : (all cs : List Callback) (gs : List CallbackGraph) → AreGraphsOf all cs gs → length gs ≡ length cs
graphs_count all [] [] made = refl
graphs_count all (c ∷ cs) (g ∷ gs) made = ap suc (graphs_count all cs gs made.1)
graphs_count all [] (g ∷ gs) made = absurd made
graphs_count all (c ∷ cs) [] made = absurd made

pub graph_at : (all cs : List Callback) (gs : List CallbackGraph) (k : ℕ) (c : Callback) → AreGraphsOf all cs gs →
    slice_get cs k ≡ Some c → IsGraphOf all c (slice_index_or gs k no_callback)
graph_at all [] [] k c made e = absurd (cc)
graph_at all (x ∷ cs) (g ∷ gs) zero c made e = subst (λ (y : Callback). IsGraphOf all y g) (cc) made.0
graph_at all (x ∷ cs) (g ∷ gs) (suc k) c made e = graph_at all cs gs k c made.1 e
graph_at all [] (g ∷ gs) k c made e = absurd made
graph_at all (x ∷ cs) [] k c made e = absurd made

-- a graph has as many callbacks as its filter
pub callbacks_counted : (f : Filter) (g : Graph) → IsLowered f g → length g.callbacks ≡ length f.callbacks
callbacks_counted f g made = graphs_count f.callbacks f.callbacks g.callbacks made.callbacks

-- the graph of each callback is the one with its number
pub callbacks_there : (f : Filter) (g : Graph) (k : ℕ) (c : Callback) → IsLowered f g → slice_get f.callbacks k ≡ Some c →
    IsGraphOf f.callbacks c (callback_at g k)
callbacks_there f g k c made e = graph_at f.callbacks f.callbacks g.callbacks k c made.callbacks e
