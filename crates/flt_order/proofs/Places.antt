-- Locks and their places.
use Rattle.std.proofs.Common.{◌≡◌, ◌<◌, ℕ, zero, suc, List, [], ◌∷◌, length, Option, Some, None, sym, ap, refl, ◌∙◌, arith, inl, inr}
use Rattle.std.proofs.Math.ListN.{get_or}
use Rattle.std.proofs.lemmas.Bool.{cases_lt}
use Rattle.std.proofs.lemmas.List.{get_or_past}
use Rattle.flt_abs.specs.State.{State}
use Rattle.flt_cert.specs.Format.{Certificate}
use Rattle.flt_check.specs.Covering.{state_at, count_at}
use Rattle.flt_rules.specs.Call.{place_of, lock_at}
use Rattle.flt_rules.specs.declared.call.LockNumber.{LockNumber}
use Rattle.flt_rules.specs.declared.call.LockNumber.TheVariants.{L0, L1, L2, L3, L4, L5, L6, L7}

-- the lock at a lock's place is that lock
pub at_place : (l : LockNumber) → lock_at (place_of l) ≡ Some l
at_place L0 = refl
at_place L1 = refl
at_place L2 = refl
at_place L3 = refl
at_place L4 = refl
at_place L5 = refl
at_place L6 = refl
at_place L7 = refl

-- the lock that is found at a place is the one whose place that is
pub found_is : (o : Option LockNumber) (n : ℕ) (l m : LockNumber) → o ≡ lock_at n → o ≡ Some m → place_of l ≡ n → m ≡ l
found_is o n l m at is same =
    let both : Some m ≡ Some l = sym is ∙ (at ∙ (ap lock_at (sym same) ∙ at_place l)) in cc

-- and one is found
pub is_found : (o : Option LockNumber) (n : ℕ) (l : LockNumber) → o ≡ lock_at n → o ≡ None → place_of l ≡ n → ⊥
is_found o n l at is same =
    let both : None ≡ Some l = sym is ∙ (at ∙ (ap lock_at (sym same) ∙ at_place l)) in absurd (cc)

-- what a list has at a place within it, whatever the default
pub same_there : {X : Type 0} (xs : List X) (i : ℕ) (d e : X) → i < length xs → get_or xs i d ≡ get_or xs i e
same_there [] i d e there = absurd (omega (arith, there))
same_there (x ∷ xs) zero d e there = refl
same_there (x ∷ xs) (suc i) d e there = same_there xs i d e (omega (arith, there))

-- there are eight places
pub place_below : (l : LockNumber) → place_of l < 8
place_below L0 = omega arith
place_below L1 = omega arith
place_below L2 = omega arith
place_below L3 = omega arith
place_below L4 = omega arith
place_below L5 = omega arith
place_below L6 = omega arith
place_below L7 = omega arith

-- a place is of one lock
pub place_same : (m l : LockNumber) → place_of m ≡ place_of l → m ≡ l
place_same m l e = let both : Some m ≡ Some l = sym (at_place m) ∙ (ap lock_at e ∙ at_place l) in cc

within : {X : Type 0} (l : List X) (i : ℕ) (d : X) → (get_or l i d ≡ d → ⊥) → i < length l
within l i d h = elim (cases_lt i (length l)) [
  | inl there ↦ there
  | inr past ↦ absurd (h (get_or_past l i d past))
]

-- a state that is there has its callback and its point
pub callback_within : (k : Certificate) (n m : ℕ) (x : State) → state_at k n m ≡ Some x → n < length k
callback_within k n m x e = within k n [] (λ d.
    let none : state_at k n m ≡ None = ap (λ l. get_or l m None) d in
    let bad : None ≡ Some x = sym none ∙ e in absurd (cc))

-- a point with a state is one of its callback's points
pub point_within : (k : Certificate) (n m : ℕ) (x : State) → state_at k n m ≡ Some x → m < count_at k n
point_within k n m x e = within (get_or k n []) m None (λ d. let bad : None ≡ Some x = sym d ∙ e in absurd (cc))
