-- The order of the pairs: equal pairs are one, and between pairs of a first number there are only pairs of it.
use Rattle.std.proofs.Common.{◌≡◌, ◌≤◌, ◌<◌, ℕ, Bool, true, false, ◌&&◌, ◌==◌, List, [], ◌∷◌, refl, sym, ◌∙◌, subst, arith}
use Rattle.std.specs.Bool.{⊤}
use Rattle.std.proofs.lemmas.Bool.Decides.{nat_tests}
use Rattle.std.specs.Option.{IfSome}
use Rattle.std.specs.List.{slice_get}
use Rattle.std.specs.BTreeSet.{BTreeSet, contains, IsKeyRangeOf}
use Rattle.std.specs.declared.ops.Bound.TheVariants.{Included, Unbounded}
use Rattle.std.specs.declared.cmp.Ordering.{Ordering}
use Rattle.std.specs.declared.cmp.Ordering.TheVariants.{Less, Equal, Greater}
use Rattle.std.specs.Bool.{IsTrue}
use Rattle.std.specs.Ordering.{nat_cmp, is_eq, is_gt, ordering_then}
use Rattle.pair_set.specs.Pairs.{pair_cmp, has, is_pair}

nat_is : (x y : ℕ) → is_eq (nat_cmp x y) ≡ (x == y)
nat_is x y = grind (arith, nat_tests)

then_is : (x y : Ordering) → is_eq (ordering_then x y) ≡ (is_eq x && is_eq y)
then_is Less y = refl
then_is Equal y = refl
then_is Greater y = refl

-- equal in the order is being one
pub cmp_is : (f o g u : ℕ) → is_eq (pair_cmp (f, o) (g, u)) ≡ is_pair f o g u
cmp_is f o g u = then_is (nat_cmp f g) (nat_cmp o u) ∙ rw (nat_is f g, nat_is o u) refl

-- ---- what comes before what

nat_le : (x y : ℕ) → is_gt (nat_cmp x y) ≡ false → x ≤ y
nat_le x y h = grind (arith, nat_tests)

nat_less : (x y : ℕ) → nat_cmp x y ≡ Less → x < y
nat_less x y h = grind (arith, nat_tests)

nat_equal : (x y : ℕ) → nat_cmp x y ≡ Equal → x ≡ y
nat_equal x y h = grind (arith, nat_tests)

nat_greater : (x y : ℕ) → nat_cmp x y ≡ Greater → y < x
nat_greater x y h = grind (arith, nat_tests)

-- one pair isn't after another
pub record NotAfter (f o g u : ℕ) : Type 0 where
  pub first : f ≤ g
  pub second : f ≡ g → o ≤ u

by_orders : (f o g u : ℕ) (x : Ordering) → nat_cmp f g ≡ x → is_gt (ordering_then x (nat_cmp o u)) ≡ false → NotAfter f o g u
by_orders f o g u Less p h = let l = nat_less f g p in record { first = omega arith; second = λ e. omega arith }
by_orders f o g u Equal p h = let m = nat_equal f g p in let l = nat_le o u h in record { first = omega arith; second = λ e. l }
by_orders f o g u Greater p h = absurd (cc)

not_after : (f o g u : ℕ) → is_gt (pair_cmp (f, o) (g, u)) ≡ false → NotAfter f o g u
not_after f o g u h = by_orders f o g u (nat_cmp f g) refl h

same_filter : (f u : ℕ) (x : Ordering) → nat_cmp f f ≡ x → is_gt (ordering_then x (nat_cmp 0 u)) ≡ false
same_filter f u Less p = refl
same_filter f u Equal p = grind (arith, nat_tests)
same_filter f u Greater p = let l = nat_greater f f p in absurd (omega arith)

from_least : (f u : ℕ) → is_gt (pair_cmp (f, 0) (f, u)) ≡ false
from_least f u = same_filter f u (nat_cmp f f) refl

-- ---- the first of the pairs from the least pair of a first number on

false_where_absurd : (b : Bool) → (b ≡ true → ⊥) → b ≡ false
false_where_absurd true h = absurd (h refl)
false_where_absurd false h = refl

module _ (s : BTreeSet (ℕ × ℕ)) (f : ℕ) (r : List (ℕ × ℕ)) (h : IsKeyRangeOf pair_cmp (Included (f, 0)) Unbounded s r) where
  module _ (p : ℕ × ℕ) (rest : List (ℕ × ℕ)) (is : r ≡ p ∷ rest) where
    first_is : (is_gt (pair_cmp (f, 0) p) ≡ false × ⊤) × IsTrue (contains pair_cmp s p)
    first_is =
        subst (λ (xs : List (ℕ × ℕ)). IfSome (slice_get xs 0)
        (λ (q : ℕ × ℕ). (is_gt (pair_cmp (f, 0) q) ≡ false × ⊤) × IsTrue (contains pair_cmp s q))) is h.1

    from_start : NotAfter f 0 p.0 p.1
    from_start = not_after f 0 p.0 p.1 first_is.0.0

    to_each : (u : ℕ) → contains pair_cmp s (f, u) ≡ true → NotAfter p.0 p.1 f u
    to_each u is_in =
        let upto = subst (λ (xs : List (ℕ × ℕ)). IfSome (slice_get xs 0) (λ (q : ℕ × ℕ). is_gt (pair_cmp q (f, u)) ≡ false)) is
        (h.2 (f, u) (from_least f u, tt) is_in) in
        not_after p.0 p.1 f u upto

    -- where it has the first number, its second is the least
    pub least_here : p.0 ≡ f → (has s f p.1 ≡ true) × ((u : ℕ) → u < p.1 → has s f u ≡ false)
    unfolding has
    least_here e =
        (rw (sym e) first_is.1, λ u less. false_where_absurd _ (λ is_in. let m = to_each u is_in in let n = m.second e in omega arith))

    -- where it has another first number, there is none
    pub none_past : (p.0 ≡ f → ⊥) → (u : ℕ) → has s f u ≡ false
    unfolding has
    none_past other u =
        false_where_absurd _ (λ is_in.
        let m = to_each u is_in in
        let n = from_start in
        other (omega (arith, m.first, n.first)))

  -- where there is no first one, there is none
  pub none_left : r ≡ [] → (u : ℕ) → has s f u ≡ false
  unfolding has
  none_left is u = h.5 is (f, u) (from_least f u, tt)
