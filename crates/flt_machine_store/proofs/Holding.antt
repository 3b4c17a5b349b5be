-- The places of a lock's holders.
use Rattle.std.proofs.Common.{◌≡◌, ℕ, zero, suc, ◌+◌, ◌-◌, ◌≤◌, ◌<◌, Bool, true, false, not, ◌==◌, ◌&&◌, cond, List}
use Rattle.std.proofs.Common.{[], ◌∷◌, ◌++◌, Some, None, Option, length, filter, ap, sym, refl, subst, ◌∙◌, arith}
use Rattle.std.proofs.Math.ListN.{get_or, set}
use Rattle.std.proofs.lemmas.Bool.Decides.{nat_tests}
use Rattle.std.specs.List.{list_all}
use Rattle.flt_model.specs.Locks.{is_free_for, may_join}
use Rattle.flt_model.specs.declared.parts.Holder.{Holder}
use Rattle.flt_rules.specs.Held.{are_compatible}
use Rattle.flt_rules.specs.declared.held.Access.{Access}
use Rattle.flt_rules.specs.declared.held.Access.TheVariants.{Exclusive, Shared}
use Rattle.flt_machine_store.specs.Holding.{AreNoted, standing, at_place, is_alone, is_free, is_of, is_place, place_in, weight}

-- whether a holder is another activation
abbrev pub is_other : ℕ → Holder → Bool
is_other a h = not (h.activation == a)

-- an activation that stands nowhere is no holder
pub none_of : (a : ℕ) (xs : List (Option Holder)) → ((q : ℕ) → is_of a (at_place xs q) ≡ false) →
    filter (is_other a) (standing xs) ≡ standing xs
none_of a [] h = refl
none_of a (None ∷ xs) h = none_of a xs (λ q. h (suc q))
none_of a (Some x ∷ xs) h =
    ap (λ (b : Bool). cond (not b) (x ∷ filter (is_other a) (standing xs)) (filter (is_other a) (standing xs))) (h 0) ∙
    ap (λ (ys : List Holder). x ∷ ys) (none_of a xs (λ q. h (suc q)))

eqb_same : (p : ℕ) → (p == p) ≡ true
eqb_same p = grind (arith, nat_tests)

eqb_suc : (p q : ℕ) → (suc p == suc q) ≡ (p == q)
eqb_suc p q = grind (arith, nat_tests)

zero_suc : (q : ℕ) → (0 == suc q) ≡ false
zero_suc q = grind (arith, nat_tests)

suc_zero : (q : ℕ) → (suc q == 0) ≡ false
suc_zero q = grind (arith, nat_tests)

-- one that stands at one place is no holder any more once this place is empty
pub one_of : (a : ℕ) (xs : List (Option Holder)) (p : ℕ) → ((q : ℕ) → is_of a (at_place xs q) ≡ (p == q)) →
    filter (is_other a) (standing xs) ≡ standing (set xs p None)
one_of a [] p h = absurd (cc (h p, eqb_same p))
one_of a (None ∷ xs) zero h = absurd (cc (h 0, eqb_same 0))
one_of a (Some x ∷ xs) zero h =
    ap (λ (b : Bool). cond (not b) (x ∷ filter (is_other a) (standing xs)) (filter (is_other a) (standing xs))) (h 0 ∙ eqb_same 0) ∙
    none_of a xs (λ q. h (suc q) ∙ zero_suc q)
one_of a (None ∷ xs) (suc p) h = one_of a xs p (λ q. h (suc q) ∙ eqb_suc p q)
one_of a (Some x ∷ xs) (suc p) h =
    ap (λ (b : Bool). cond (not b) (x ∷ filter (is_other a) (standing xs)) (filter (is_other a) (standing xs))) (h 0 ∙ suc_zero p) ∙
    ap (λ (ys : List Holder). x ∷ ys) (one_of a xs p (λ q. h (suc q) ∙ eqb_suc p q))

-- who leaves a place is one holder less
pub one_less : (xs : List (Option Holder)) (p : ℕ) (x : Holder) → at_place xs p ≡ Some x →
    length (standing xs) ≡ suc (length (standing (set xs p None)))
one_less [] p x is = absurd (cc)
one_less (None ∷ xs) zero x is = absurd (cc)
one_less (Some y ∷ xs) zero x is = refl
one_less (None ∷ xs) (suc p) x is = one_less xs p x is
one_less (Some y ∷ xs) (suc p) x is = ap suc (one_less xs p x is)

lone_here : (x : Holder) (ys : List Holder) → length (filter is_alone (x ∷ ys)) ≡ weight x.access + length (filter is_alone ys)
lone_here x ys = by_access x.access refl
  where
    by_access : (k : Access) → x.access ≡ k → length (filter is_alone (x ∷ ys)) ≡ weight x.access + length (filter is_alone ys)
    by_access Exclusive is = rw is (omega arith)
    by_access Shared is = rw is (omega arith)

-- and one less that holds the lock alone, if it did
pub lone_less : (xs : List (Option Holder)) (p : ℕ) (x : Holder) → at_place xs p ≡ Some x →
    length (filter is_alone (standing xs)) ≡ weight x.access + length (filter is_alone (standing (set xs p None)))
lone_less [] p x is = absurd (cc)
lone_less (None ∷ xs) zero x is = absurd (cc)
lone_less (Some y ∷ xs) zero x is = let same : y ≡ x = cc in subst (λ (z : Holder).
    length (filter is_alone (y ∷ standing xs)) ≡ weight z.access + length (filter is_alone (standing xs))) same (lone_here y (standing xs))
lone_less (None ∷ xs) (suc p) x is = lone_less xs p x is
lone_less (Some y ∷ xs) (suc p) x is =
    let l = lone_here y (standing xs) in
    let m = lone_here y (standing (set xs p None)) in
    let n = lone_less xs p x is in
    omega (arith, l, m, n)

-- an activation may take a lock where those of the others that hold it let it
pub free_split : (a : ℕ) (access : Access) (ys : List Holder) →
    is_free_for a access ys ≡ list_all (λ (h : Holder). are_compatible access h.access) (filter (is_other a) ys)
free_split a access [] = refl
free_split a access (y ∷ ys) = by_test (y.activation == a) refl (free_split a access ys)
  where
    by_test : (b : Bool) → (y.activation == a) ≡ b →
        is_free_for a access ys ≡ list_all (λ (h : Holder). are_compatible access h.access) (filter (is_other a) ys) →
        is_free_for a access (y ∷ ys) ≡ list_all (λ (h : Holder). are_compatible access h.access) (filter (is_other a) (y ∷ ys))
    by_test true is rest = rw is rest
    by_test false is rest = rw is (ap (λ (b : Bool). are_compatible access y.access && b) rest)

-- exclusive where there is none of them
pub free_alone : (ys : List Holder) → list_all (λ (h : Holder). are_compatible Exclusive h.access) ys ≡ (length ys == 0)
free_alone [] = refl
free_alone (y ∷ ys) = sym (suc_zero (length ys))

-- shared where none of them is exclusive
pub free_shared : (ys : List Holder) → list_all (λ (h : Holder). are_compatible Shared h.access) ys ≡ (length (filter is_alone ys) == 0)
free_shared [] = refl
free_shared (y ∷ ys) = by_access y.access refl (free_shared ys)
  where
    by_access : (k : Access) → y.access ≡ k →
        list_all (λ (h : Holder). are_compatible Shared h.access) ys ≡ (length (filter is_alone ys) == 0) →
        list_all (λ (h : Holder). are_compatible Shared h.access) (y ∷ ys) ≡ (length (filter is_alone (y ∷ ys)) == 0)
    by_access Exclusive is rest = rw is (sym (suc_zero (length (filter is_alone ys))))
    by_access Shared is rest = rw is rest

-- no more hold the lock than there are places
pub few_standing : (xs : List (Option Holder)) → length (standing xs) ≤ length xs
few_standing [] = omega arith
few_standing (None ∷ xs) = let l = few_standing xs in omega (arith, l)
few_standing (Some x ∷ xs) = let l = few_standing xs in omega (arith, l)

-- and no more alone than at all
pub few_alone : (ys : List Holder) → length (filter is_alone ys) ≤ length ys
few_alone [] = omega arith
few_alone (y ∷ ys) = by_access y.access refl (few_alone ys)
  where
    by_access : (k : Access) → y.access ≡ k → length (filter is_alone ys) ≤ length ys → length (filter is_alone (y ∷ ys)) ≤ length (y ∷ ys)
    by_access Exclusive is l = rw is (omega (arith, l))
    by_access Shared is l = rw is (omega (arith, l))

-- where nobody holds the lock, each place is empty
pub none_standing : (xs : List (Option Holder)) (a q : ℕ) → length (standing xs) ≡ 0 → is_of a (at_place xs q) ≡ false
none_standing [] a q is = refl
none_standing (None ∷ xs) a zero is = refl
none_standing (None ∷ xs) a (suc q) is = none_standing xs a q is
none_standing (Some x ∷ xs) a q is = absurd (omega (arith, is))

-- ---- one more place

pub at_end : (xs : List (Option Holder)) (v : Option Holder) → at_place (xs ++ v ∷ []) (length xs) ≡ v
at_end [] v = refl
at_end (x ∷ xs) v = at_end xs v

pub at_other : (xs : List (Option Holder)) (v : Option Holder) (q : ℕ) → (q ≡ length xs → ⊥) → at_place (xs ++ v ∷ []) q ≡ at_place xs q
at_other [] v zero other = absurd (other refl)
at_other [] v (suc q) other = refl
at_other (x ∷ xs) v zero other = refl
at_other (x ∷ xs) v (suc q) other = at_other xs v q (λ is. other (ap suc is))

pub past_end : (xs : List (Option Holder)) → at_place xs (length xs) ≡ None
past_end [] = refl
past_end (x ∷ xs) = past_end xs

-- an activation that stands at a place
pub stands : (xs : List (Option Holder)) (n : List (ℕ × ℕ)) (c k a p : ℕ) → AreNoted xs n c k → Some p ≡ place_in n a →
    is_of a (at_place xs p) ≡ true
stands xs n c k a p h is = h.there a p ∙ ap (is_place p) (sym is) ∙ eqb_same p

-- stands within the places
pub within : (xs : List (Option Holder)) (a p : ℕ) → is_of a (at_place xs p) ≡ true → p < length xs
within [] a p is = absurd (cc)
within (x ∷ xs) a zero is = omega arith
within (x ∷ xs) a (suc p) is = let l = within xs a p is in omega (arith, l)

eq_of : (p q : ℕ) → (p == q) ≡ true → p ≡ q
eq_of p q is = grind (arith, nat_tests)

ne_of : (p q : ℕ) → (p == q) ≡ false → p ≡ q → ⊥
ne_of p q is same = absurd (cc (is, eqb_same p, same))

set_here : (xs : List (Option Holder)) (p : ℕ) → at_place (set xs p None) p ≡ None
set_here [] p = refl
set_here (x ∷ xs) zero = refl
set_here (x ∷ xs) (suc p) = set_here xs p

set_other : (xs : List (Option Holder)) (p q : ℕ) → (p ≡ q → ⊥) → at_place (set xs p None) q ≡ at_place xs q
set_other [] p q other = refl
set_other (x ∷ xs) zero zero other = absurd (other refl)
set_other (x ∷ xs) zero (suc q) other = refl
set_other (x ∷ xs) (suc p) zero other = refl
set_other (x ∷ xs) (suc p) (suc q) other = set_other xs p q (λ is. other (ap suc is))

-- ---- one holder more

-- one holder more
pub standing_more : (xs : List (Option Holder)) (x : Holder) → standing (xs ++ Some x ∷ []) ≡ standing xs ++ x ∷ []
standing_more [] x = refl
standing_more (None ∷ xs) x = standing_more xs x
standing_more (Some y ∷ xs) x = ap (λ (ys : List Holder). y ∷ ys) (standing_more xs x)

length_more : (ys : List Holder) (x : Holder) → length (ys ++ x ∷ []) ≡ length ys + 1
length_more [] x = refl
length_more (y ∷ ys) x = let l = length_more ys x in omega (arith, l)

lone_more : (ys : List Holder) (x : Holder) → length (filter is_alone (ys ++ x ∷ [])) ≡ length (filter is_alone ys) + weight x.access
lone_more [] x = let l = lone_here x [] in omega (arith, l)
lone_more (y ∷ ys) x =
    let l = lone_here y ys in
    let m = lone_here y (ys ++ x ∷ []) in
    let n = lone_more ys x in
    omega (arith, l, m, n)

module _ (xs : List (Option Holder)) (n m : List (ℕ × ℕ)) (c k : ℕ) (x : Holder) (h : AreNoted xs n c k)
    (new : None ≡ place_in n x.activation) (here : place_in m x.activation ≡ Some (length xs))
    (others : (b : ℕ) → (b ≡ x.activation → ⊥) → place_in m b ≡ place_in n b) where
  there_more : (b q : ℕ) → is_of b (at_place (xs ++ Some x ∷ []) q) ≡ is_place q (place_in m b)
  there_more b q = by_tests (x.activation == b) refl (length xs == q) refl
    where
      by_tests : (u : Bool) → (x.activation == b) ≡ u → (v : Bool) → (length xs == q) ≡ v →
          is_of b (at_place (xs ++ Some x ∷ []) q) ≡ is_place q (place_in m b)
      by_tests true own true last =
          let b_is = eq_of _ _ own in
          let q_is = eq_of _ _ last in
          rw (← q_is) (ap (is_of b) (at_end xs (Some x)) ∙ own ∙
          sym (ap (is_place (length xs)) (ap (place_in m) (sym b_is) ∙ here) ∙ eqb_same (length xs)))
      by_tests true own false last =
          let b_is = eq_of _ _ own in
          ap (is_of b) (at_other xs (Some x) q (λ e. ne_of _ _ last (sym e))) ∙ h.there b q ∙
          ap (is_place q) (ap (place_in n) (sym b_is) ∙ sym new) ∙
          sym (ap (is_place q) (ap (place_in m) (sym b_is) ∙ here) ∙ last)
      by_tests false own true last =
          let q_is = eq_of _ _ last in
          rw (← q_is) (ap (is_of b) (at_end xs (Some x)) ∙ own ∙ sym (ap (is_of b) (past_end xs)) ∙ h.there b (length xs) ∙
          sym (ap (is_place (length xs)) (others b (λ e. ne_of _ _ own (sym e)))))
      by_tests false own false last =
          ap (is_of b) (at_other xs (Some x) q (λ e. ne_of _ _ last (sym e))) ∙ h.there b q ∙
          sym (ap (is_place q) (others b (λ e. ne_of _ _ own (sym e))))

  -- an activation that stood nowhere takes the place behind all others
  pub noted_more : AreNoted (xs ++ Some x ∷ []) m (c + 1) (k + weight x.access)
  noted_more = record {
    there = there_more;
    all = ap (λ (i : ℕ). i + 1) h.all ∙ sym (ap length (standing_more xs x) ∙ length_more (standing xs) x);
    lone = ap (λ (i : ℕ). i + weight x.access) h.lone ∙
        sym (ap (λ (ys : List Holder). length (filter is_alone ys)) (standing_more xs x) ∙ lone_more (standing xs) x);
  }

-- ---- one holder less

module _ (xs : List (Option Holder)) (n m : List (ℕ × ℕ)) (c k a p : ℕ) (x : Holder) (h : AreNoted xs n c k)
    (old : Some p ≡ place_in n a) (holds : at_place xs p ≡ Some x) where
  own : (x.activation == a) ≡ true
  own = ap (is_of a) (sym holds) ∙ stands xs n c k a p h old

  only : (q : ℕ) → is_of a (at_place xs q) ≡ (p == q)
  only q = h.there a q ∙ ap (is_place q) (sym old)

  -- the others are those that stand when its place is empty
  pub others_stand : filter (is_other a) (standing xs) ≡ standing (set xs p None)
  others_stand = one_of a xs p only

  -- a holder that leaves its place leaves one holder fewer
  pub count_less : c ≡ suc (length (standing (set xs p None)))
  count_less = h.all ∙ one_less xs p x holds

  -- a holder that leaves its place leaves as many alone as there were, less itself if it was one
  pub alone_less : k ≡ weight x.access + length (filter is_alone (standing (set xs p None)))
  alone_less = h.lone ∙ lone_less xs p x holds

  module _ (gone : place_in m a ≡ None) (others : (b : ℕ) → (b ≡ a → ⊥) → place_in m b ≡ place_in n b) where
    there_less : (b q : ℕ) → is_of b (at_place (set xs p None) q) ≡ is_place q (place_in m b)
    there_less b q = by_tests (a == b) refl (p == q) refl
      where
        by_tests : (u : Bool) → (a == b) ≡ u → (v : Bool) → (p == q) ≡ v → is_of b (at_place (set xs p None) q) ≡ is_place q (place_in m b)
        by_tests true mine true here =
            rw (← eq_of _ _ mine, ← eq_of _ _ here) (ap (is_of a) (set_here xs p) ∙ sym (ap (is_place p) gone))
        by_tests true mine false there =
            rw (← eq_of _ _ mine) (ap (is_of a) (set_other xs p q (ne_of _ _ there)) ∙ only q ∙ there ∙ sym (ap (is_place q) gone))
        by_tests false mine true here =
            let not_b : (x.activation == b) ≡ false = rw (eq_of _ _ own) mine in
            rw (← eq_of _ _ here) (ap (is_of b) (set_here xs p) ∙ sym (ap (is_of b) holds ∙ not_b) ∙ h.there b p ∙
            sym (ap (is_place p) (others b (λ e. ne_of _ _ mine (sym e)))))
        by_tests false mine false there =
            ap (is_of b) (set_other xs p q (ne_of _ _ there)) ∙ h.there b q ∙ sym (ap (is_place q) (others b (λ e. ne_of _ _ mine (sym e))))

    -- an activation leaves its place
    pub noted_less : (d j : ℕ) → d ≡ c - 1 → j ≡ k - weight x.access → AreNoted (set xs p None) m d j
    noted_less d j d_is j_is = record {
      there = there_less;
      all = let l = count_less in omega (arith, l, d_is);
      lone = let l = alone_less in omega (arith, l, j_is);
    }

    -- and where it was the last one, no place is left
    pub noted_none : (d j : ℕ) → d ≡ c - 1 → j ≡ k - weight x.access → d ≡ 0 → AreNoted [] m d j
    noted_none d j d_is j_is zero_is =
        let less = noted_less d j d_is j_is in
        let empty : length (standing (set xs p None)) ≡ 0 = sym less.all ∙ zero_is in
        let few = few_alone (standing (set xs p None)) in
        record {
          there = λ b q. sym (none_standing (set xs p None) b q empty) ∙ less.there b q;
          all = zero_is;
          lone = let l = less.lone in omega (arith, l, few, empty);
        }

    -- where the count falls to 0, no holder stands
    pub none_stand : (d : ℕ) → d ≡ c - 1 → d ≡ 0 → standing (set xs p None) ≡ []
    none_stand d d_is zero_is = let l = count_less in empty_of (standing (set xs p None)) (omega (arith, l, d_is, zero_is))
      where
        empty_of : (ys : List Holder) → length ys ≡ 0 → ys ≡ []
        empty_of [] is = refl
        empty_of (y ∷ ys) is = absurd (omega (arith, is))

  -- whether the lock is free for an activation that holds it
  pub free_own_alone : (c == 1) ≡ is_free_for a Exclusive (standing xs)
  free_own_alone =
      let l = count_less in
      ap (λ (i : ℕ). i == 1) l ∙ eqb_suc (length (standing (set xs p None))) 0 ∙ sym (free_split a Exclusive (standing xs) ∙
      ap (list_all (λ (y : Holder). are_compatible Exclusive y.access)) others_stand ∙ free_alone (standing (set xs p None)))

  -- an activation that is the only one alone may share the lock
  pub free_own_shared : (k == weight x.access) ≡ is_free_for a Shared (standing xs)
  free_own_shared =
      ap (λ (i : ℕ). i == weight x.access) alone_less ∙ plus_same (weight x.access) _ ∙ sym (free_split a Shared (standing xs) ∙
      ap (list_all (λ (y : Holder). are_compatible Shared y.access)) others_stand ∙ free_shared (standing (set xs p None)))
    where
      plus_same : (w z : ℕ) → (w + z == w) ≡ (z == 0)
      plus_same w z = grind (arith, nat_tests)

-- ---- an activation that doesn't hold the lock

module _ (xs : List (Option Holder)) (n : List (ℕ × ℕ)) (c k a : ℕ) (h : AreNoted xs n c k) (old : None ≡ place_in n a) where
  -- an activation that has no place leaves all holders others
  pub others_all : filter (is_other a) (standing xs) ≡ standing xs
  others_all = none_of a xs (λ q. h.there a q ∙ ap (is_place q) (sym old))

  -- an activation without a place may hold the lock alone just where nobody holds it
  pub free_new_alone : (c == 0) ≡ is_free_for a Exclusive (standing xs)
  free_new_alone =
      ap (λ (i : ℕ). i == 0) h.all ∙ sym (free_split a Exclusive (standing xs) ∙
      ap (list_all (λ (y : Holder). are_compatible Exclusive y.access)) others_all ∙ free_alone (standing xs))

  -- an activation without a place may share the lock just where nobody holds it alone
  pub free_new_shared : (k == 0) ≡ is_free_for a Shared (standing xs)
  free_new_shared =
      ap (λ (i : ℕ). i == 0) h.lone ∙ sym (free_split a Shared (standing xs) ∙
      ap (list_all (λ (y : Holder). are_compatible Shared y.access)) others_all ∙ free_shared (standing xs))

-- ---- where the holders are walked

-- the holders of the places without an activation's are the other holders
pub walk_others : (a : ℕ) (xs : List (Option Holder)) →
    standing (filter (λ (o : Option Holder). not (is_of a o)) xs) ≡ filter (is_other a) (standing xs)
walk_others a [] = refl
walk_others a (None ∷ xs) = walk_others a xs
walk_others a (Some x ∷ xs) = by_test (x.activation == a) refl (walk_others a xs)
  where
    by_test : (b : Bool) → (x.activation == a) ≡ b →
        standing (filter (λ (o : Option Holder). not (is_of a o)) xs) ≡ filter (is_other a) (standing xs) →
        standing (filter (λ (o : Option Holder). not (is_of a o)) (Some x ∷ xs)) ≡ filter (is_other a) (standing (Some x ∷ xs))
    by_test true is rest = rw is rest
    by_test false is rest = rw is (ap (λ (ys : List Holder). x ∷ ys) rest)

-- where each place is free to an activation, the lock is free to it
pub walk_free : (a : ℕ) (access : Access) (xs : List (Option Holder)) → list_all (is_free a access) xs ≡ is_free_for a access (standing xs)
walk_free a access [] = refl
walk_free a access (None ∷ xs) = walk_free a access xs
walk_free a access (Some x ∷ xs) = ap (λ (b : Bool). may_join a access x && b) (walk_free a access xs)

-- what more is counted fits
pub fits_more : (xs : List (Option Holder)) (n : List (ℕ × ℕ)) (c k : ℕ) → AreNoted xs n c k → (c ≤ length xs) × (k ≤ length xs)
fits_more xs n c k h =
    let few = few_standing xs in
    let lone = few_alone (standing xs) in
    let all = h.all in
    let alone = h.lone in
    (omega (arith, few, all), omega (arith, few, lone, alone))

-- one holder is one at most
pub light_one : (k : Access) → weight k ≤ 1
light_one Exclusive = omega arith
light_one Shared = omega arith

-- who stands at a place
pub stands_so : (a : ℕ) (o : Option Holder) → is_of a o ≡ true → (x : Holder) × (o ≡ Some x)
stands_so a None is = absurd (cc)
stands_so a (Some x) is = (x, refl)

-- what is read at a place where the activation stands, whatever is read past the last place
pub same_place : (a : ℕ) (xs : List (Option Holder)) (p : ℕ) (d : Option Holder) →
    is_of a (at_place xs p) ≡ true → get_or xs p d ≡ at_place xs p
same_place a [] p d so = absurd (cc)
same_place a (x ∷ xs) zero d so = refl
same_place a (x ∷ xs) (suc p) d so = same_place a xs p d so
