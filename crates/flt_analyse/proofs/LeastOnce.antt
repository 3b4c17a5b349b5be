-- A graph has one least certificate at most; and what is below a least one is least.
use Rattle.std.proofs.Common.{◌≡◌, ◌<◌, ℕ, [], length, get_or, Some, None, refl, sym, ap, ◌∙◌, arith}
use Rattle.std.specs.Prelude.{IsTrue}
use Rattle.std.proofs.lemmas.List.{ext_get_or}
use Rattle.flt_abs.specs.State.{State, is_below}
use Rattle.flt_cert.specs.Format.{Certificate, Point}
use Rattle.flt_check.specs.Covering.{Covers, state_at, IsPointBelow, IsCertificateBelow}
use Rattle.flt_graph.specs.declared.graph.Graph.{Graph}
use Rattle.flt_analyse.specs.Least.{IsLeast}

module _ (antisymmetric : (x y : State) → IsTrue (is_below x y) → IsTrue (is_below y x) → x ≡ y) where
  same_point : (a b : Point) → IsPointBelow a b → IsPointBelow b a → a ≡ b
  same_point (Some x) (Some y) h k = ap Some (antisymmetric x y h k)
  same_point (Some x) None h k = absurd h
  same_point None (Some y) h k = absurd k
  same_point None None h k = refl

  -- certificates that cover have the same counts; where each is below the other, they have the same points
  pub least_once : (g : Graph) (k l : Certificate) → Covers g k → IsLeast g k → Covers g l → IsLeast g l → k ≡ l
  least_once g k l covers least covers_too least_too =
      ext_get_or [] k l (covers.callbacks ∙ sym covers_too.callbacks) (λ i below.
      ext_get_or None (get_or k i []) (get_or l i []) (count i (let e = covers.callbacks in omega arith)) (λ j within.
      same_point (state_at k i j) (state_at l i j) (least l covers_too i j) (least_too k covers i j)))
    where
      count : (i : ℕ) → i < length g.callbacks → length (get_or k i []) ≡ length (get_or l i [])
      count i below = sym (covers.points i below) ∙ covers_too.points i below

module _ (transitive : (x y z : State) → IsTrue (is_below x y) → IsTrue (is_below y z) → IsTrue (is_below x z)) where
  below_both : (a b c : Point) → IsPointBelow a b → IsPointBelow b c → IsPointBelow a c
  below_both (Some x) (Some y) (Some z) h k = transitive x y z h k
  below_both (Some x) (Some y) None h k = absurd k
  below_both (Some x) None c h k = absurd h
  below_both None b c h k = tt

  -- what is below a least certificate is below every one that covers
  pub below_least : (g : Graph) (k l : Certificate) → IsLeast g k → IsCertificateBelow l k → IsLeast g l
  below_least g k l least below other covers callback point =
      below_both (state_at l callback point) (state_at k callback point) (state_at other callback point) (below callback point)
      (least other covers callback point)
