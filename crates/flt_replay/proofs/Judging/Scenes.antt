-- What is read of an activation whose locks are replaced.
use Rattle.std.proofs.Common.{◌≡◌, ℕ, zero, suc, List, [], ◌∷◌, Some, None, get_or, set, refl}
use Rattle.std.specs.List.{slice_get}
use Rattle.flt_rules.specs.declared.held.HeldLock.{HeldLock}
use Rattle.flt_model.specs.World.{Activation, nobody}

-- what was put at a place that is there is read there
pub found_set : {X : Type 0} (xs : List X) (i : ℕ) (x y d : X) → slice_get xs i ≡ Some x → get_or (set xs i y) i d ≡ y
found_set [] i x y d e = absurd (cc)
found_set (z ∷ xs) zero x y d e = refl
found_set (z ∷ xs) (suc i) x y d e = found_set xs i x y d e

-- what was put at a place that isn't there isn't read
pub missing_set : {X : Type 0} (xs : List X) (i : ℕ) (y d : X) → slice_get xs i ≡ None → get_or (set xs i y) i d ≡ d
missing_set [] i y d e = refl
missing_set (z ∷ xs) zero y d e = absurd (cc)
missing_set (z ∷ xs) (suc i) y d e = missing_set xs i y d e

-- all else stays
pub operations_kept : (xs : List Activation) (i : ℕ) (locks : List HeldLock) →
    (get_or (set xs i (record (get_or xs i nobody) { locks = locks })) i nobody).operations ≡ (get_or xs i nobody).operations
operations_kept [] i locks = refl
operations_kept (x ∷ xs) zero locks = refl
operations_kept (x ∷ xs) (suc i) locks = operations_kept xs i locks
