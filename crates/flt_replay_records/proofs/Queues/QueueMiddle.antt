-- The first entry that passes a test, and the others.
use Rattle.std.proofs.Common.{◌≡◌, ℕ, suc, ◌+◌, Bool, true, false, List, [], ◌∷◌, ◌++◌}
use Rattle.std.proofs.Common.{Some, find, take, drop, refl, sym, ap, ◌∙◌, arith, add-one}
use Rattle.std.specs.List.{AllByRecursion, position_or_len}
use Rattle.flt_model.specs.declared.parts.Entry.{Entry}
use Rattle.flt_replay_records.specs.Tickets.{without_first}

past_first : (x : Entry) (xs : List Entry) (n m : ℕ) → m ≡ suc n →
    x ∷ (take n xs ++ drop (n + 1) xs) ≡ take m (x ∷ xs) ++ drop (m + 1) (x ∷ xs)
past_first x xs n m e = rw (e, add-one, add-one) refl

module _ (p : Entry → Bool) where
  -- a first entry that passes is the one that is found, and the rest are the others
  pub first_passes : (x : Entry) (xs : List Entry) → p x ≡ true → (find p (x ∷ xs) ≡ Some x) × (xs ≡ without_first p (x ∷ xs))
  first_passes x xs h = (rw h refl, rw h refl)

  -- a first entry that fails is kept, and the search continues after it
  pub first_fails : (x : Entry) (xs : List Entry) → p x ≡ false → (find p (x ∷ xs) ≡ find p xs)
      × (x ∷ without_first p xs ≡ without_first p (x ∷ xs))
  first_fails x xs h =
      (rw h refl, past_first x xs (position_or_len p xs) (position_or_len p (x ∷ xs)) (rw h (omega arith)))

-- ---- two tests that say the same of each entry

by_test : (p r : Entry → Bool) (x : Entry) (q : List Entry) (b : Bool) → r x ≡ b → p x ≡ r x → (find p q ≡ find r q)
    × (without_first p q ≡ without_first r q) → (find p (x ∷ q) ≡ find r (x ∷ q)) × (without_first p (x ∷ q) ≡ without_first r (x ∷ q))
by_test p r x q true e f rest =
    let here = first_passes p x q (f ∙ e) in
    let there = first_passes r x q e in
    (here.0 ∙ sym there.0, sym here.1 ∙ there.1)
by_test p r x q false e f rest =
    let here = first_fails p x q (f ∙ e) in
    let there = first_fails r x q e in
    (here.0 ∙ rest.0 ∙ sym there.0, sym here.1 ∙ ap (λ (l : List Entry). x ∷ l) rest.1 ∙ there.1)

-- tests that agree on all entries find the same one, and leave the same others
pub same_first : (p r : Entry → Bool) (q : List Entry) → AllByRecursion (λ e. p e ≡ r e) q → (find p q ≡ find r q)
    × (without_first p q ≡ without_first r q)
same_first p r [] h = (refl, refl)
same_first p r (x ∷ q) h = by_test p r x q (r x) refl h.0 (same_first p r q h.1)
