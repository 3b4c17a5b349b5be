-- Each edge of a text's graph leads onwards, or to a `repeat`: a block is followed by a later point,
-- or by the `repeat` that it is the body of.
use Rattle.std.proofs.Common.{◌≡◌, ℕ, zero, suc, ◌+◌, ◌<◌, ◌≤◌, Bool, true, false, List, [], ◌∷◌}
use Rattle.std.proofs.Common.{Option, Some, None, ap, sym, subst, refl, ◌∙◌, arith, inl, inr}
use Rattle.std.specs.Prelude.{◌⊎◌, ◌==◌, if◌then◌else◌}
use Rattle.std.proofs.lemmas.Bool.{eqb-true, cases_lt}
use Rattle.flt_rules.specs.Table.{row}
use Rattle.flt_rules.specs.declared.columns.Effects.{Effects}
use Rattle.flt_tree.specs.Measures.{points_of, points, points_step}
use Rattle.flt_tree.specs.Registered.{numbered}
use Rattle.flt_tree.specs.declared.filter.Callback.{Callback}
use Rattle.flt_tree.specs.declared.filter.Condition.{Condition}
use Rattle.flt_tree.specs.declared.filter.Condition.TheVariants as condition
use Rattle.flt_tree.specs.declared.filter.Statement.{Statement, out-Statement}
use Rattle.flt_tree.specs.declared.filter.Statement.TheFolds.{map-Statement}
use Rattle.flt_tree.specs.declared.filter.Statement.TheOpen.{Statement-F}
use Rattle.flt_graph.specs.Graph.{point_in}
use Rattle.flt_graph.specs.Instruction.{plain, fallible}
use Rattle.flt_graph.specs.Kept.{edge, failing, edges_of, is_repeat}
use Rattle.flt_graph.specs.Lowering.{IsGraphOf}
use Rattle.flt_graph.specs.Points.{In, top, later, granted_block, refused_block, turn, entry, choice, instruction_of, point_of}
use Rattle.flt_graph.specs.declared.graph.CallbackGraph.{CallbackGraph}
use Rattle.flt_graph.specs.declared.graph.Point.{Point}
use Rattle.flt_graph.proofs.Codes.{out_points, points_cons}

-- ---- edges

edge_hits : (a p : ℕ) → 0 < edge a p → a ≡ p
edge_hits a p h = by (a == p) refl h
  where
    by : (b : Bool) → (a == p) ≡ b → 0 < (if b then 1 else 0) → a ≡ p
    by true e h = eqb-true a p e
    by false e h = absurd (omega arith)

failing_hits : (e : Option Effects) (a p : ℕ) → 0 < failing e a p → a ≡ p
failing_hits (Some e) a p h = edge_hits a p h
failing_hits None a p h = absurd (omega arith)

one_of : (x y : ℕ) → 0 < x + y → (0 < x) ⊎ (0 < y)
one_of x y h = elim (cases_lt 0 x) [
  | inl l ↦ inl l
  | inr z ↦ inr (omega arith)
]

-- ---- sizes

sizes : (s : Statement) (layer : Statement-F Statement) → out-Statement s ≡ layer →
    points_of s ≡ points_step (map-Statement Statement ℕ points_of layer)
sizes s layer o = out_points s ∙ ap (λ (y : Statement-F Statement). points_step (map-Statement Statement ℕ points_of y)) o

some_point : (layer : Statement-F Statement) → 1 ≤ points_step (map-Statement Statement ℕ points_of layer)
some_point (Statement-F.Act span action) = omega arith
some_point (Statement-F.Call span call) = omega arith
some_point (Statement-F.Return span status) = omega arith
some_point (Statement-F.If span asked granted refused) = omega arith
some_point (Statement-F.Repeat span turns block) = omega arith

-- a statement has its own point
pub own_size : (s : Statement) → 1 ≤ points_of s
own_size s = let size = sizes s (out-Statement s) refl in let some = some_point (out-Statement s) in omega arith

-- ---- what follows a block

-- a point isn't before another, or it is a `repeat`
abbrev Onwards : CallbackGraph → ℕ → ℕ → Type 0
Onwards g least p = (least ≤ p) ⊎ (is_repeat (point_in g p).instruction ≡ true)

-- a point comes after another, or is a `repeat`
abbrev pub Rises : CallbackGraph → ℕ → ℕ → Type 0
Rises g n p = (n < p) ⊎ (is_repeat (point_in g p).instruction ≡ true)

-- what follows a statement isn't before the statement's end
next_onwards : (g : CallbackGraph) (s : Statement) (rest : List Statement) (n q : ℕ) → Onwards g (n + points (s ∷ rest)) q →
    Onwards g (n + points_of s) (entry rest (n + points_of s) q)
next_onwards g s [] n q (inl h) = let size = points_cons s [] in inl (omega arith)
next_onwards g s [] n q (inr h) = inr h
next_onwards g s (r ∷ rest) n q h = inl (omega arith)

module _ (all : List Callback) (c : Callback) (g : CallbackGraph) (made : IsGraphOf all c g) where
  -- what follows a block isn't before the block's end
  in_onwards : {block follows : List Statement} {n q : ℕ} → In c.body block n q follows → Onwards g (n + points block) q
  in_onwards top = inl (omega arith)
  in_onwards (later {s = s} {rest = rest} i) =
      let size = points_cons s rest in
      elim (in_onwards i) [
        | inl h ↦ inl (omega arith)
        | inr h ↦ inr h
      ]
  in_onwards (granted_block {s = s} {rest = rest} {yes_block = y} {no_block = z} {asked = a} {span = l} {n = n} {q = q} i o) =
      let size : points_of s ≡ 1 + (points y + points z) = sizes s (Statement-F.If l a y z) o in
      elim (next_onwards g s rest n q (in_onwards i)) [
        | inl h ↦ inl (omega arith)
        | inr h ↦ inr h
      ]
  in_onwards (refused_block {s = s} {rest = rest} {yes_block = y} {no_block = z} {asked = a} {span = l} {n = n} {q = q} i o) =
      let size : points_of s ≡ 1 + (points y + points z) = sizes s (Statement-F.If l a y z) o in
      elim (next_onwards g s rest n q (in_onwards i)) [
        | inl h ↦ inl (omega arith)
        | inr h ↦ inr h
      ]
  in_onwards (turn {s = s} {rest = rest} {block = b} {span = l} {turns = k} {left = left} {n = n} {q = q} {follows = follows} i o less) =
      inr (ap (λ (p : Point). is_repeat p.instruction) (made.statements s rest follows n q i)
      ∙ ap (λ (y : Statement-F Statement). is_repeat (instruction_of all y n (entry rest (n + points_of s) q))) o)

-- ---- where a statement leads

entry_rises : (g : CallbackGraph) (block : List Statement) (n at after : ℕ) → n < at → Rises g n after → Rises g n (entry block at after)
entry_rises g [] n at after h r = r
entry_rises g (s ∷ rest) n at after h r = inl h

along : (g : CallbackGraph) (n a p : ℕ) → a ≡ p → Rises g n a → Rises g n p
along g n a p e r = subst (λ q. Rises g n q) e r

two_rise : (g : CallbackGraph) (n a b to : ℕ) → Rises g n a → Rises g n b → 0 < edge a to + edge b to → Rises g n to
two_rise g n a b to r s h = elim (one_of (edge a to) (edge b to) h) [
  | inl k ↦ along g n a to (edge_hits a to k) r
  | inr k ↦ along g n b to (edge_hits b to k) s
]

call_rises : (g : CallbackGraph) (n a b to : ℕ) (e : Option Effects) →
    Rises g n a → Rises g n b → 0 < edge a to + failing e b to → Rises g n to
call_rises g n a b to e r s h = elim (one_of (edge a to) (failing e b to) h) [
  | inl k ↦ along g n a to (edge_hits a to k) r
  | inr k ↦ along g n b to (failing_hits e b to k) s
]

choice_rises : (all : List Callback) (g : CallbackGraph) (n a b to : ℕ) (asked : Condition) → Rises g n a → Rises g n b →
    0 < edges_of (choice all asked a b) to → Rises g n to
choice_rises all g n a b to (condition.Test t) r s h = two_rise g n a b to r s h
choice_rises all g n a b to (condition.Succeeds k) r s h = call_rises g n a b to (row (fallible (numbered all k)).call).on_fail r s h

-- a `repeat` of a text is one at its point
layer_rises : (all : List Callback) (g : CallbackGraph) (layer : Statement-F Statement) (n after to : ℕ) → Rises g n after →
    (is_repeat (instruction_of all layer n after) ≡ true → is_repeat (point_in g n).instruction ≡ true) →
    0 < edges_of (instruction_of all layer n after) to → Rises g n to
layer_rises all g (Statement-F.Act span action) n after to r own h = along g n after to (edge_hits after to h) r
layer_rises all g (Statement-F.Call span call) n after to r own h = call_rises g n after after to (row (plain call).call).on_fail r r h
layer_rises all g (Statement-F.Return span status) n after to r own h = absurd (omega arith)
layer_rises all g (Statement-F.If span asked granted refused) n after to r own h =
    choice_rises all g n (entry granted (n + 1) after) (entry refused (n + 1 + points granted) after) to asked
    (entry_rises g granted n (n + 1) after (omega arith) r) (entry_rises g refused n (n + 1 + points granted) after (omega arith) r) h
layer_rises all g (Statement-F.Repeat span turns block) n after to r own h =
    two_rise g n (entry block (n + 1) n) after to (entry_rises g block n (n + 1) n (omega arith) (inr (own refl))) r h

-- each edge out of a statement's point leads onwards, or to a `repeat`
pub statement_rises : (all : List Callback) (c : Callback) (g : CallbackGraph) → IsGraphOf all c g →
    (s : Statement) (rest follows : List Statement) (n q to : ℕ) → In c.body (s ∷ rest) n q follows →
    0 < edges_of (point_in g n).instruction to → Rises g n to
statement_rises all c g made s rest follows n q to i h =
    let at : (point_in g n).instruction ≡ instruction_of all (out-Statement s) n (entry rest (n + points_of s) q) =
    ap (λ (p : Point). p.instruction) (made.statements s rest follows n q i) in
    let one = own_size s in
    let next : Rises g n (entry rest (n + points_of s) q) = elim (next_onwards g s rest n q (in_onwards all c g made i)) [
      | inl k ↦ inl (omega arith)
      | inr k ↦ inr k
    ] in
    layer_rises all g (out-Statement s) n (entry rest (n + points_of s) q) to next (λ e. ap is_repeat at ∙ e)
    (subst (λ x. 0 < edges_of x to) at h)
