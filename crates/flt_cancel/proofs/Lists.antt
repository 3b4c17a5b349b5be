-- Lists read and changed at a place.
use Rattle.std.proofs.Common.{◌≡◌, ◌⊎◌, ℕ, zero, suc, ◌<◌, ◌≤◌, List, [], ◌∷◌, ◌++◌, length, get_or, refl, sym, inl, inr, ⊎_elim, arith}
use mathlib.Core.Option.{some, some-injective, some-ne-none}
use lib.ListN.{get_elem?}

module _ {A : Type 0} where
  -- what is read at a place is there
  pub there : (l : List A) (i : ℕ) (a : A) → get_elem? l i ≡ some a → i < length l
  there [] i a at = absurd (some-ne-none a (sym at))
  there (x ∷ xs) zero a at = omega arith
  there (x ∷ xs) (suc i) a at = omega (arith, there xs i a at)

  -- what is read at a place is what the default is replaced by
  pub read : (l : List A) (i : ℕ) (a d : A) → get_elem? l i ≡ some a → get_or l i d ≡ a
  read [] i a d at = absurd (some-ne-none a (sym at))
  read (x ∷ xs) zero a d at = some-injective x a at
  read (x ∷ xs) (suc i) a d at = read xs i a d at

  -- a place within a list has what is read there
  pub at_place : (l : List A) (i : ℕ) (d : A) → i < length l → get_elem? l i ≡ some (get_or l i d)
  at_place [] i d lt = absurd (omega arith)
  at_place (x ∷ xs) zero d lt = refl
  at_place (x ∷ xs) (suc i) d lt = at_place xs i d (omega arith)

  -- what stands in a list with one element more stood in the list, or is that element
  pub at_snoc_place : (l : List A) (a b : A) (j : ℕ) → get_elem? (l ++ a ∷ []) j ≡ some b → (get_elem? l j ≡ some b)
      ⊎ ((a ≡ b) × (length l ≤ j))
  at_snoc_place [] a b zero e = inr (some-injective a b e, omega arith)
  at_snoc_place [] a b (suc j) e = absurd (some-ne-none b (sym e))
  at_snoc_place (x ∷ xs) a b zero e = inl e
  at_snoc_place (x ∷ xs) a b (suc j) e = ⊎_elim inl (λ t. inr (t.0, (let far = t.1 in omega (arith, far)))) (at_snoc_place xs a b j e)
