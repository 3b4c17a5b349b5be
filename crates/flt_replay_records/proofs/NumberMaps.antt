-- What numbers have where there is room for more of them, and where one is set.
use Rattle.std.proofs.Common.{◌≡◌, ◌≢◌, ⊎_elim, ℕ, [], ◌∷◌, ◌-◌, ◌<◌, ◌≤◌, ◌==◌, if◌then◌else◌, true, false, Bool, List}
use Rattle.std.proofs.Common.{◌++◌, Option, None, replicate, take, length, get_or, set, refl, sym, ap, ◌∙◌, arith}
use Rattle.std.proofs.lemmas.Bool.{cases_eq, cases_lt}
use Rattle.std.proofs.lemmas.Bool.Decides.{nat_tests}
use Rattle.std.proofs.lemmas.List.{get_or-set_other, get_or-set_same, get_or_append_left, get_or-append_right, get_or-replicate}
use Rattle.std.proofs.lemmas.List.{get_or_past, length-append, length-replicate, get_or_push, take_all}

module _ {X : Type 0} (z : X) where
  past_same : (m i : ℕ) → get_or (replicate m z) i z ≡ z
  past_same m i = ⊎_elim (λ (l : i < m). get_or-replicate m i z z l)
      (λ (l : m ≤ i). get_or_past (replicate m z) i z (let e = length-replicate m z in omega (arith, e))) (cases_lt i m)

  same_with_more : (xs : List X) (m n : ℕ) → get_or (xs ++ replicate m z) n z ≡ get_or xs n z
  same_with_more xs m n =
      ⊎_elim (λ (l : n < length xs). get_or_append_left xs (replicate m z) z n l)
      (λ (l : length xs ≤ n). get_or-append_right xs (replicate m z) (length xs) n z refl l
      ∙ past_same m (n - length xs) ∙ sym (get_or_past xs n z l))
      (cases_lt n (length xs))

  -- a list that is filled up with a default reads the same
  pub filled : (xs new : List X) (size : ℕ) → length xs < size →
      new ≡ take size xs ++ replicate (size - length xs) z → (n : ℕ) → get_or new n z ≡ get_or xs n z
  filled xs new size l is n =
      ap (λ (ys : List X). get_or ys n z) (is ∙ ap (λ (ys : List X). ys ++ replicate (size - length xs) z) (take_all size xs (omega arith)))
      ∙ same_with_more xs (size - length xs) n

-- numbers read the same where there is room for more of them
pub filled_up : (xs new : List (Option ℕ)) (size : ℕ) → length xs < size →
    new ≡ take size xs ++ replicate (size - length xs) None → (n : ℕ) → get_or new n None ≡ get_or xs n None
filled_up xs new size l is n = filled None xs new size l is n

tells_equal : (k n : ℕ) → k ≡ n → (k == n) ≡ true
tells_equal k n e = grind (arith, nat_tests)

tells_other : (k n : ℕ) → n ≢ k → (k == n) ≡ false
tells_other k n e = grind (arith, nat_tests)

-- one number is set
pub written : (old grown : List (Option ℕ)) (k : ℕ) (x : Option ℕ) → k < length grown →
    ((n : ℕ) → get_or grown n None ≡ get_or old n None) → (n : ℕ) →
    get_or (set grown k x) n None ≡ (if k == n then x else get_or old n None)
written old grown k x l same n =
    ⊎_elim (λ (e : n ≡ k).
    ap (λ (m : ℕ). get_or (set grown k x) m None) e ∙ get_or-set_same grown k x None l
    ∙ ap (λ (b : Bool). if b then x else get_or old n None) (sym (tells_equal k n (sym e))))
    (λ (ne : n ≢ k).
    get_or-set_other grown k n x None ne ∙ same n ∙ ap (λ (b : Bool). if b then x else get_or old n None) (sym (tells_other k n ne)))
    (cases_eq n k)

-- the next number is set
pub appended : (old : List (Option ℕ)) (k : ℕ) (x : Option ℕ) → k ≡ length old → (n : ℕ) →
    get_or (old ++ x ∷ []) n None ≡ (if k == n then x else get_or old n None)
appended old k x e n =
    ⊎_elim (λ (same : n ≡ k).
    get_or_push old x None n (sym (same ∙ e)) ∙ ap (λ (b : Bool). if b then x else get_or old n None) (sym (tells_equal k n (sym same))))
    (λ (ne : n ≢ k).
    ⊎_elim (λ (l : n < length old). get_or_append_left old (x ∷ []) None n l)
    (λ (l : length old ≤ n).
    let more : length old < n = grind (arith, e, l, ne) in
    get_or_past (old ++ x ∷ []) n None (let long = length-append old (x ∷ []) in omega (arith, long, more)) ∙
    sym (get_or_past old n None l)) (cases_lt n (length old))
    ∙ ap (λ (b : Bool). if b then x else get_or old n None) (sym (tells_other k n ne)))
    (cases_eq n k)
