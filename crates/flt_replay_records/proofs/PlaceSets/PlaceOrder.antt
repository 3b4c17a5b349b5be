-- The order of places: equal places are one, and between places of two numbers there are only places of these.
use Rattle.std.proofs.Common.{◌≡◌, ◌≤◌, ◌<◌, ℕ, Bool, true, false, ◌&&◌, ◌==◌, List, [], ◌∷◌, refl, sym, ◌∙◌, subst, arith}
use Rattle.std.specs.Bool.{⊤}
use Rattle.std.proofs.lemmas.Bool.Decides.{nat_tests}
use Rattle.std.specs.Option.{IfSome}
use Rattle.std.specs.List.{slice_get}
use Rattle.std.specs.BTreeSet.{BTreeSet, contains, IsKeyRangeOf}
use Rattle.std.specs.declared.ops.Bound.TheVariants.{Included, Unbounded}
use Rattle.std.specs.declared.cmp.Ordering.{Ordering}
use Rattle.std.specs.declared.cmp.Ordering.TheVariants.{Less, Equal, Greater}
use Rattle.std.specs.Bool.{IsTrue}
use Rattle.std.specs.Ordering.{nat_cmp, is_eq, is_gt, ordering_then}
use Rattle.flt_replay_records.specs.Places.{place_cmp, has, is_place}

nat_is : (x y : ℕ) → is_eq (nat_cmp x y) ≡ (x == y)
nat_is x y = grind (arith, nat_tests)

then_is : (x y z : Ordering) → is_eq (ordering_then (ordering_then x y) z) ≡ (is_eq x && (is_eq y && is_eq z))
then_is Less y z = refl
then_is Equal Less z = refl
then_is Equal Equal z = refl
then_is Equal Greater z = refl
then_is Greater y z = refl

-- two places compare as equal where all three numbers are equal
pub cmp_is : (i j k a b c : ℕ) → is_eq (place_cmp (i, j, k) (a, b, c)) ≡ is_place i j k a b c
cmp_is i j k a b c =
    then_is (nat_cmp i a) (nat_cmp j b) (nat_cmp k c) ∙ rw (nat_is i a, nat_is j b, nat_is k c) refl

-- ---- what comes before what

nat_le : (x y : ℕ) → is_gt (nat_cmp x y) ≡ false → x ≤ y
nat_le x y h = grind (arith, nat_tests)

nat_less : (x y : ℕ) → nat_cmp x y ≡ Less → x < y
nat_less x y h = grind (arith, nat_tests)

nat_equal : (x y : ℕ) → nat_cmp x y ≡ Equal → x ≡ y
nat_equal x y h = grind (arith, nat_tests)

nat_greater : (x y : ℕ) → nat_cmp x y ≡ Greater → y < x
nat_greater x y h = grind (arith, nat_tests)

pub record NotAfter (i j k a b c : ℕ) : Type 0 where
  pub first : i ≤ a
  pub second : i ≡ a → j ≤ b
  pub third : i ≡ a → j ≡ b → k ≤ c

by_orders : (i j k a b c : ℕ) (x y z : Ordering) → nat_cmp i a ≡ x → nat_cmp j b ≡ y → nat_cmp k c ≡ z →
    is_gt (ordering_then (ordering_then x y) z) ≡ false → NotAfter i j k a b c
by_orders i j k a b c Less y z p q r h = let l = nat_less i a p in
    record { first = omega arith; second = λ e. omega arith; third = λ e f. omega arith }
by_orders i j k a b c Equal Less z p q r h = let l = nat_less j b q in let m = nat_equal i a p in
    record { first = omega arith; second = λ e. omega arith; third = λ e f. omega arith }
by_orders i j k a b c Equal Equal Less p q r h = let l = nat_less k c r in let m = nat_equal i a p in let n = nat_equal j b q in
    record { first = omega arith; second = λ e. omega arith; third = λ e f. omega arith }
by_orders i j k a b c Equal Equal Equal p q r h = let l = nat_equal k c r in let m = nat_equal i a p in let n = nat_equal j b q in
    record { first = omega arith; second = λ e. omega arith; third = λ e f. omega arith }
by_orders i j k a b c Equal Equal Greater p q r h = absurd (cc)
by_orders i j k a b c Equal Greater z p q r h = absurd (cc)
by_orders i j k a b c Greater y z p q r h = absurd (cc)

pub not_after : (i j k a b c : ℕ) → is_gt (place_cmp (i, j, k) (a, b, c)) ≡ false → NotAfter i j k a b c
not_after i j k a b c h = by_orders i j k a b c (nat_cmp i a) (nat_cmp j b) (nat_cmp k c) refl refl refl h

order_from : (i j c a b d : ℕ) (x y z : Ordering) → nat_cmp i a ≡ x → nat_cmp j b ≡ y → nat_cmp c d ≡ z → NotAfter i j c a b d →
    is_gt (ordering_then (ordering_then x y) z) ≡ false
order_from i j c a b d Less y z p q r h = refl
order_from i j c a b d Equal Less z p q r h = refl
order_from i j c a b d Equal Equal Less p q r h = refl
order_from i j c a b d Equal Equal Equal p q r h = refl
order_from i j c a b d Equal Equal Greater p q r h = let l = nat_greater c d r in let m = nat_equal i a p in let n =
    nat_equal j b q in absurd (omega (arith, h.third m n))
order_from i j c a b d Equal Greater z p q r h = let l = nat_greater j b q in let m = nat_equal i a p in absurd (omega (arith, h.second m))
order_from i j c a b d Greater y z p q r h = let l = nat_greater i a p in absurd (omega (arith, h.first))

pub from_least : (i j l c : ℕ) → l ≤ c → is_gt (place_cmp (i, j, l) (i, j, c)) ≡ false
from_least i j l c h =
    order_from i j l i j c (nat_cmp i i) (nat_cmp j j) (nat_cmp l c) refl refl refl
    (record { first = omega arith; second = λ e. omega arith; third = λ e f. h })

-- ---- the first of the places from the least place of two numbers on

false_where_absurd : (b : Bool) → (b ≡ true → ⊥) → b ≡ false
false_where_absurd true h = absurd (h refl)
false_where_absurd false h = refl

module _ (s : BTreeSet (ℕ × ℕ × ℕ)) (i j l : ℕ) (r : List (ℕ × ℕ × ℕ)) (h : IsKeyRangeOf place_cmp (Included (i, j, l)) Unbounded s r) where
  module _ (p : ℕ × ℕ × ℕ) (rest : List (ℕ × ℕ × ℕ)) (is : r ≡ p ∷ rest) where
    first_is : (is_gt (place_cmp (i, j, l) p) ≡ false × ⊤) × IsTrue (contains place_cmp s p)
    first_is =
        subst (λ (xs : List (ℕ × ℕ × ℕ)). IfSome (slice_get xs 0)
        (λ (q : ℕ × ℕ × ℕ). (is_gt (place_cmp (i, j, l) q) ≡ false × ⊤) × IsTrue (contains place_cmp s q))) is h.1

    from_start : NotAfter i j l p.0 p.1 p.2
    from_start = not_after i j l p.0 p.1 p.2 first_is.0.0

    to_each : (c : ℕ) → l ≤ c → contains place_cmp s (i, j, c) ≡ true → NotAfter p.0 p.1 p.2 i j c
    to_each c k is_in =
        let upto = subst (λ (xs : List (ℕ × ℕ × ℕ)). IfSome (slice_get xs 0)
        (λ (q : ℕ × ℕ × ℕ). is_gt (place_cmp q (i, j, c)) ≡ false)) is (h.2 (i, j, c) (from_least i j l c k, tt) is_in) in
        not_after p.0 p.1 p.2 i j c upto

    -- the least place from a bound on is one of the link, where its first two numbers are the link's
    pub least_here : p.0 ≡ i → p.1 ≡ j → (l ≤ p.2) × ((has s i j p.2 ≡ true) × ((c : ℕ) → l ≤ c → c < p.2 → has s i j c ≡ false))
    unfolding has
    least_here e f = (
      from_start.third (sym e) (sym f),
      (
        rw (sym e, sym f) first_is.1,
        λ c k less. false_where_absurd _ (λ is_in. let m = to_each c k is_in in let n = m.third e f in omega arith),
      ),
    )

    -- where the least place from a bound on has other numbers, the link has no place from there on
    pub none_past : (p.0 ≡ i → p.1 ≡ j → ⊥) → (c : ℕ) → l ≤ c → has s i j c ≡ false
    unfolding has
    none_past other c k =
        false_where_absurd _ (λ is_in.
        let m = to_each c k is_in in
        let n = from_start in
        let e : p.0 ≡ i = omega (arith, m.first, n.first) in
        other e (omega (arith, m.second e, n.second (sym e))))

  -- where no place comes from a bound on, the link has none from there on
  pub none_left : r ≡ [] → (c : ℕ) → l ≤ c → has s i j c ≡ false
  unfolding has
  none_left is c k = h.5 is (i, j, c) (from_least i j l c k, tt)
