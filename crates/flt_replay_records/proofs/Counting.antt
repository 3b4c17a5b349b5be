-- What counts by number say where one is counted once more or once less.
use Rattle.std.proofs.Common.{◌≡◌, ◌≢◌, ⊎_elim, subst, ap, ◌∙◌, ℕ, zero, suc, ◌+◌, ◌-◌, ◌<◌, ◌≤◌, List}
use Rattle.std.proofs.Common.{[], ◌∷◌, ◌++◌, replicate, take, length, get_or, set, refl, sym, arith}
use Rattle.std.proofs.lemmas.Bool.{cases_eq}
use Rattle.std.proofs.lemmas.Bool.Decides.{nat_tests}
use Rattle.std.proofs.lemmas.List.{get_or-set_other, get_or-set_same, get_or_past}
use Rattle.flt_model.specs.Trace.{one_if}
use Rattle.flt_replay_records.specs.Counts.{count}
use Rattle.flt_replay_records.proofs.NumberMaps.{filled}

-- counts that are filled up with 0 say the same
pub filled_up : (times new : List ℕ) (size : ℕ) → length times < size →
    new ≡ take size times ++ replicate (size - length times) 0 → (n : ℕ) → count new n ≡ count times n
unfolding count
filled_up times new size l is n = filled 0 times new size l is n

one_here : (k : ℕ) → one_if k k ≡ 1
unfolding one_if
one_here k = grind (arith, nat_tests)

one_elsewhere : (k n : ℕ) → n ≢ k → one_if k n ≡ 0
unfolding one_if
one_elsewhere k n ne = grind (arith, nat_tests)

one_after : (k m n : ℕ) → m ≡ k + 1 → one_if k n ≡ one_if m (suc n)
unfolding one_if
one_after k m n e = grind (arith, nat_tests, e)

-- a number is counted once more
pub once_more : (old grown : List ℕ) (k t : ℕ) → k < length grown → ((n : ℕ) → count grown n ≡ count old n) → t ≡ count old k + 1 →
    (n : ℕ) → count (set grown k t) n ≡ count old n + one_if k n
unfolding count
once_more old grown k t l same is n =
    ⊎_elim (λ (e : n ≡ k).
    let here = get_or-set_same grown k t 0 l in
    let one = one_here k in
    subst (λ (m : ℕ). get_or (set grown k t) m 0 ≡ get_or old m 0 + one_if k m) (sym e) (omega arith))
    (λ (ne : n ≢ k).
    let there = get_or-set_other grown k n t 0 ne in
    let none = one_elsewhere k n ne in
    let was = same n in
    omega arith)
    (cases_eq n k)

-- the same where room was there
pub raised : (old : List ℕ) (k t : ℕ) → k < length old → t ≡ get_or old k 0 + 1 → (n : ℕ) → count (set old k t) n ≡ count old n + one_if k n
unfolding count
raised old k t l is n = once_more old old k t l (λ m. refl) is n

counted_next : (old : List ℕ) (n : ℕ) → count (old ++ 1 ∷ []) n ≡ count old n + one_if (length old) n
unfolding count
counted_next [] zero = let here : 1 ≡ 0 + one_if 0 0 = omega (arith, one_here 0) in here
counted_next [] (suc n) = let none : 0 ≡ 0 + one_if 0 (suc n) = omega (arith, one_elsewhere 0 (suc n) (λ e. omega (arith, e))) in none
counted_next (x ∷ xs) zero =
    let none = one_elsewhere (length (x ∷ xs)) 0 (λ e. omega (arith, e)) in
    let same : x ≡ x + one_if (length (x ∷ xs)) 0 = omega (arith, none) in same
counted_next (x ∷ xs) (suc n) =
    counted_next xs n ∙ ap (λ k. get_or xs n 0 + k) (one_after (length xs) (length (x ∷ xs)) n (omega arith))

-- the next number is counted the first time
pub first_time : (old new : List ℕ) (k : ℕ) → k ≡ length old → new ≡ old ++ 1 ∷ [] → (n : ℕ) → count new n ≡ count old n + one_if k n
first_time old new k here is n = rw (here, is) (counted_next old n)

-- a number that counts is counted once less
pub once_less : (old : List ℕ) (k t : ℕ) → k < length old → t ≡ get_or old k 0 - 1 → 0 < count old k →
    (n : ℕ) → count old n ≡ count (set old k t) n + one_if k n
unfolding count
once_less old k t l is some n =
    ⊎_elim (λ (e : n ≡ k).
    let here = get_or-set_same old k t 0 l in
    let one = one_here k in
    subst (λ (m : ℕ). get_or old m 0 ≡ get_or (set old k t) m 0 + one_if k m) (sym e) (omega arith))
    (λ (ne : n ≢ k).
    let there = get_or-set_other old k n t 0 ne in
    let none = one_elsewhere k n ne in
    omega arith)
    (cases_eq n k)

-- a number that is past the end doesn't count
pub past_the_end : (times : List ℕ) (k : ℕ) → length times ≤ k → count times k ≡ 0
unfolding count
past_the_end times k l = get_or_past times k 0 l

-- so it counts 1 where it is counted and there is room
pub first_past : (old grown : List ℕ) (k : ℕ) → length old ≤ k → k < length grown → ((n : ℕ) → count grown n ≡ count old n) →
    (n : ℕ) → count (set grown k 1) n ≡ count old n + one_if k n
first_past old grown k past l same n = once_more old grown k 1 l same (omega (arith, past_the_end old k past)) n

-- as often as before, where one was counted and taken back
pub back : (cs ds es : List ℕ) (u : ℕ) → ((v : ℕ) → count ds v ≡ count cs v + one_if u v) →
    (0 < count ds u → (v : ℕ) → count ds v ≡ count es v + one_if u v) → (v : ℕ) → count es v ≡ count cs v
unfolding one_if
back cs ds es u more less v =
    let one : one_if u u ≡ 1 = grind (arith, nat_tests) in
    let here = more u in
    let m = more v in
    let l = less (omega arith) v in
    omega arith
