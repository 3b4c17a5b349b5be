-- A text's callbacks have few enough points for the cells.
use Rattle.std.proofs.Common.{arith, ◌≡◌, ◌+◌, ◌≤◌, ◌&&◌, ℕ, zero, suc, Bool, true, false, true≢false, List}
use Rattle.std.proofs.Common.{[], ◌∷◌, length, slice_index_or, sym, refl, leb-true, IsTrue, nat_le}
use Rattle.std.specs.List.{list_all}
use Rattle.flt_tree.specs.Measures.{are_small, is_small, points, cost}
use Rattle.flt_tree.specs.declared.filter.Callback.{Callback}
use Rattle.flt_tree.specs.declared.filter.Filter.{Filter}
use Rattle.flt_graph.specs.Graph.{no_callback}
use Rattle.flt_graph.specs.Lowering.{AreGraphsOf, IsLowered}
use Rattle.flt_graph.specs.declared.graph.CallbackGraph.{CallbackGraph}
use Rattle.flt_graph.specs.declared.graph.Graph.{Graph}
use Rattle.flt_kinds.specs.Rounds.{IsNarrow}
use Rattle.flt_rules.specs.Limits.{max_cost, max_points}

left_true : (x y : Bool) → (x && y) ≡ true → x ≡ true
left_true true y e = refl
left_true false y e = e

right_true : (x y : Bool) → (x && y) ≡ true → y ≡ true
right_true true y e = e
right_true false y e = absurd (true≢false (sym e))

few : (c : Callback) → is_small c ≡ true → points c.body + 1 ≤ 512
few c e = leb-true (points c.body + 1) max_points (left_true (nat_le (points c.body + 1) 512) (nat_le (cost c.body + 1) max_cost) e)

narrow_in : (all cs : List Callback) (gs : List CallbackGraph) → AreGraphsOf all cs gs → list_all is_small cs ≡ true → (k : ℕ) →
    length (slice_index_or gs k no_callback).points ≤ 513
narrow_in all [] [] are small k = omega arith
narrow_in all [] (g ∷ gs) are small k = absurd are
narrow_in all (c ∷ cs) [] are small k = absurd are
narrow_in all (c ∷ cs) (g ∷ gs) are small zero = omega (arith, are.0.count, few c (left_true (is_small c) (list_all is_small cs) small))
narrow_in all (c ∷ cs) (g ∷ gs) are small (suc k) = narrow_in all cs gs are.1 (right_true (is_small c) (list_all is_small cs) small) k

-- the graph of a filter within the limits is narrow
pub narrow : (f : Filter) (g : Graph) → IsTrue (are_small f) → IsLowered f g → IsNarrow g
narrow f g small is = λ k. narrow_in f.callbacks f.callbacks g.callbacks is.callbacks small k
