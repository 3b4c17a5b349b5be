-- The first place at which a test passes.
use Rattle.std.proofs.Common.{◌≡◌, ◌<◌, ℕ, Bool, true, false, List, Option, Some, None, length, get_or, ⊎_elim, refl, sym, arith}
use Rattle.std.specs.Option.{MatchOption}
use Rattle.std.specs.List.{position}
use Rattle.std.proofs.lemmas.Bool.{lt-ltb, cases_lt}
use Rattle.std.proofs.lemmas.Bool.Decides.{nat_tests}
use Rattle.std.proofs.lemmas.List.{get_or_past}
use Rattle.std.proofs.lemmas.List.Sums.{position_or_len_is}

module _ {X : Type 0} (p : X → Bool) (xs : List X) (d : X) (past : p d ≡ false) where
  within : (k : ℕ) → p (get_or xs k d) ≡ true → k < length xs
  within k here = ⊎_elim (λ l. l) (λ l. absurd (let e = get_or_past xs k d l in cc)) (cases_lt k (length xs))

  position_at : (k : ℕ) → p (get_or xs k d) ≡ true → ((c : ℕ) → c < k → p (get_or xs c d) ≡ false) → position p xs ≡ Some k
  position_at k here before =
      let l = within k here in
      let e = position_or_len_is p xs k d (omega arith) before (λ _. here) in
      rw (e, lt-ltb k (length xs) l) refl

  position_nowhere : ((c : ℕ) → p (get_or xs c d) ≡ false) → position p xs ≡ None
  position_nowhere none =
      let e = position_or_len_is p xs (length xs) d (omega arith) (λ k l. none k) (λ l. absurd (omega arith)) in
      rw e (grind (arith, nat_tests))

  -- the place at which a test passes first is its position
  pub is_position : (r : Option ℕ) → MatchOption r ((c : ℕ) → p (get_or xs c d) ≡ false)
      (λ k. (p (get_or xs k d) ≡ true) × ((c : ℕ) → c < k → p (get_or xs c d) ≡ false)) → r ≡ position p xs
  is_position None h = sym (position_nowhere h)
  is_position (Some k) h = sym (position_at k h.0 h.1)
