-- What a block adds stands where the text has it.
use Rattle.std.proofs.Common.{◌≡◌, ℕ, ◌+◌, List, [], ◌∷◌, ◌++◌, ◌∙◌, length, get_or, ap, subst, refl, arith}
use Rattle.std.proofs.lemmas.List.{length-append, get_or_push}
use Rattle.flt_tree.specs.Filter.{head_place}
use Rattle.flt_tree.specs.Measures.{points_of, points}
use Rattle.flt_tree.specs.declared.filter.Callback.{Callback}
use Rattle.flt_tree.specs.declared.filter.Statement.{Statement, out-Statement}
use Rattle.flt_tree.specs.declared.filter.Statement.TheOpen.{Statement-F}
use Rattle.flt_graph.proofs.Codes.{block_cons, inner_code, out_code, code_length, block_length}
use Rattle.flt_graph.proofs.Segments.{IsAt, at_first, at_second, at_tail, at_head}
use Rattle.flt_graph.specs.Codes.{statement_code, block_code}
use Rattle.flt_graph.specs.Graph.{no_point}
use Rattle.flt_graph.specs.Lowering.{IsGraphOf, end_of}
use Rattle.flt_graph.specs.Points.{entry, point_of, In, top, later, granted_block, refused_block, turn}
use Rattle.flt_graph.specs.declared.graph.CallbackGraph.{CallbackGraph}
use Rattle.flt_graph.specs.declared.graph.Point.{Point}

module _ (all : List Callback) (whole : List Point) where
  -- a statement's points stand where its block's do
  at_statement : (s : Statement) (rest : List Statement) (n q : ℕ) → IsAt whole (block_code all (s ∷ rest) n q) n →
      IsAt whole (statement_code all s n (entry rest (n + points_of s) q)) n
  at_statement s rest n q h =
      at_first (statement_code all s n (entry rest (n + points_of s) q)) (block_code all rest (n + points_of s) q)
      (subst (λ (l : List Point). IsAt whole l n) (block_cons all s rest n q) h)

  at_rest : (s : Statement) (rest : List Statement) (n q : ℕ) → IsAt whole (block_code all (s ∷ rest) n q) n →
      IsAt whole (block_code all rest (n + points_of s) q) (n + points_of s)
  at_rest s rest n q h =
      at_second (statement_code all s n (entry rest (n + points_of s) q)) (block_code all rest (n + points_of s) q) (points_of s)
      (code_length all s n (entry rest (n + points_of s) q)) (subst (λ (l : List Point). IsAt whole l n) (block_cons all s rest n q) h)

  at_inner : (s : Statement) (layer : Statement-F Statement) (n p : ℕ) → out-Statement s ≡ layer →
      IsAt whole (statement_code all s n p) n → IsAt whole (inner_code all layer n p) (n + 1)
  at_inner s layer n p o h =
      at_tail (point_of all layer n p) (inner_code all layer n p)
      (subst (λ (l : Statement-F Statement). IsAt whole (point_of all l n p ∷ inner_code all l n p) n) o
      (subst (λ (l : List Point). IsAt whole l n) (out_code all s n p) h))

  at_point : (s : Statement) (n p : ℕ) → IsAt whole (statement_code all s n p) n →
      get_or whole n no_point ≡ point_of all (out-Statement s) n p
  at_point s n p h = at_head (point_of all (out-Statement s) n p) (inner_code all (out-Statement s) n p) no_point
      (subst (λ (l : List Point). IsAt whole l n) (out_code all s n p) h)

  -- each block of the text has its points where it begins
  places : {body block follows : List Statement} {n q : ℕ} → IsAt whole (block_code all body 0 (points body)) 0 →
      In body block n q follows → IsAt whole (block_code all block n q) n
  places h top = h
  places h (later {s = s} {rest = rest} {n = n} {q = q} i) = at_rest s rest n q (places h i)
  places h (granted_block {s = s} {rest = rest} {yes_block = g} {no_block = r} {asked = a} {span = l} {n = n} {q = q} i o) =
      at_first (block_code all g (n + 1) (entry rest (n + points_of s) q))
      (block_code all r (n + 1 + points g) (entry rest (n + points_of s) q))
      (at_inner s (Statement-F.If l a g r) n (entry rest (n + points_of s) q) o (at_statement s rest n q (places h i)))
  places h (refused_block {s = s} {rest = rest} {yes_block = g} {no_block = r} {asked = a} {span = l} {n = n} {q = q} i o) =
      at_second (block_code all g (n + 1) (entry rest (n + points_of s) q))
      (block_code all r (n + 1 + points g) (entry rest (n + points_of s) q)) (points g)
      (block_length all g (n + 1) (entry rest (n + points_of s) q))
      (at_inner s (Statement-F.If l a g r) n (entry rest (n + points_of s) q) o (at_statement s rest n q (places h i)))
  places h (turn {s = s} {rest = rest} {block = b} {span = l} {turns = k} {n = n} {q = q} i o less) =
      at_inner s (Statement-F.Repeat l k b) n (entry rest (n + points_of s) q) o (at_statement s rest n q (places h i))

-- what a callback's points are
pub graph_made : (all : List Callback) (c : Callback) (g : CallbackGraph) → g.place ≡ head_place c.head →
    g.points ≡ block_code all c.body 0 (points c.body) ++ end_of c ∷ [] → IsGraphOf all c g
graph_made all c g place same = record {
  place = place;
  count = ap length same ∙ (length-append (block_code all c.body 0 (points c.body)) (end_of c ∷ [])
      ∙ omega (arith, block_length all c.body 0 (points c.body)));
  statements = λ s rest follows n q i. at_point all g.points s n (entry rest (n + points_of s) q)
      (at_statement all g.points s rest n q
      (places all g.points (record { ahead = []; behind = end_of c ∷ []; same = same; long = refl }) i));
  end = ap (λ (l : List Point). get_or l (points c.body) no_point) same
      ∙ get_or_push (block_code all c.body 0 (points c.body)) (end_of c) no_point (points c.body)
      (block_length all c.body 0 (points c.body));
}
