-- The first place whose element passes a test, and the list without it. Crates above cite these laws, too.
use Rattle.std.proofs.Common.{◌≡◌, ℕ, ◌<◌, ◌≤◌, ◌+◌, nat_lt, Bool, true, false, if◌then◌else◌, List, ◌++◌, Some, None, length, remove}
use Rattle.std.proofs.Common.{get_or, find, position, refl, sym, ◌∙◌, ap, add-one, arith}
use Rattle.std.specs.List.{position_or_len, slice_get, before_first, after_first}
use Rattle.std.proofs.lemmas.Bool.{ltb-true, ltb-false}
use Rattle.std.proofs.lemmas.List.{take_all, drop_all, append-nil}
use Rattle.std.proofs.lemmas.List.Folds.{find_at}
use Rattle.std.proofs.lemmas.Option.{slice_get_past, slice_get-get_or}

some_holds : (b : Bool) (i n : ℕ) → Some i ≡ (if b then Some n else None) → (i ≡ n) × (b ≡ true)
some_holds true i n e = (cc, refl)
some_holds false i n e = absurd (cc)

none_fails : (b : Bool) (n : ℕ) → None ≡ (if b then Some n else None) → b ≡ false
none_fails true n e = absurd (cc)
none_fails false n e = refl

module _ {X : Type 0} (test : X → Bool) where
  at_first : (xs : List X) (i : ℕ) → Some i ≡ position test xs → (i ≡ position_or_len test xs)
      × (nat_lt (position_or_len test xs) (length xs) ≡ true)
  at_first xs i e = some_holds _ i (position_or_len test xs) e

  -- a place that is found is one of the list
  pub within : (xs : List X) (i : ℕ) → Some i ≡ position test xs → i < length xs
  within xs i e = rw (at_first xs i e).0 (ltb-true _ _ (at_first xs i e).1)

  -- the list without what stands there
  pub without : (xs : List X) (i : ℕ) → Some i ≡ position test xs → remove xs i ≡ before_first test xs ++ after_first test xs
  without xs i e = rw ((at_first xs i e).0, add-one) refl

  past_end : (xs : List X) → None ≡ position test xs → length xs ≤ position_or_len test xs
  past_end xs e = ltb-false _ _ (none_fails _ (position_or_len test xs) e)

  -- what stands at the first place is what is found
  pub found_there : (xs : List X) (i : ℕ) → Some i ≡ position test xs → find test xs ≡ slice_get xs i
  found_there xs i e = find_at test xs ∙ ap (slice_get xs) (sym (at_first xs i e).0)

  -- the same of a place that is read with a default
  pub found_at : (xs : List X) (i : ℕ) (d : X) → Some i ≡ position test xs → find test xs ≡ Some (get_or xs i d)
  found_at xs i d e = found_there xs i e ∙ slice_get-get_or xs i d (within xs i e)

  -- nothing is found where there is no such place
  pub none_found : (xs : List X) → None ≡ position test xs → find test xs ≡ None
  none_found xs e = find_at test xs ∙ slice_get_past xs _ (past_end xs e)

  -- where none is found, nothing goes
  pub none_goes : (xs : List X) → None ≡ position test xs → before_first test xs ++ after_first test xs ≡ xs
  none_goes xs e =
      let l = past_end xs e in
      let front = take_all (position_or_len test xs) xs l in
      let back = drop_all (position_or_len test xs + 1) xs (omega arith) in
      rw (front, back) (append-nil xs)
