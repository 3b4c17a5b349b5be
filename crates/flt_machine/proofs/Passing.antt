-- Numbers that pass, and what each filter gives.
use Rattle.std.proofs.Common.{◌≡◌, ◌≢◌, ℕ, zero, suc, ◌+◌, ◌<◌, ◌≤◌, Bool, true, false, List, [], ◌∷◌, ◌++◌, Some}
use Rattle.std.proofs.Common.{None, length, drop, if◌then◌else◌, ap, sym, refl, ◌∙◌, inl, inr, arith, append-nil}
use Rattle.std.proofs.Math.ListN.{get_or}
use Rattle.std.proofs.lemmas.Bool.{cases_eq}
use Rattle.std.proofs.lemmas.Bool.Decides.{nat_tests}
use Rattle.std.proofs.lemmas.List.{drop_more, drop_all}
use Rattle.std.specs.Prelude.{nat_lt, slice_get}
use Rattle.flt_model.specs.declared.subject.Subject.{Subject}
use Rattle.flt_machine.specs.Tickets.{passing, newcomer, by_altitude}

-- ---- numbers that pass

module _ (test : ℕ → Bool) where
  -- none does
  pub passing_none : (n : ℕ) → ((k : ℕ) → k < n → test k ≡ false) → passing test n ≡ []
  passing_none zero misses = refl
  passing_none (suc n) misses =
      ap (λ (l : List ℕ). l ++ (if test n then n ∷ [] else [])) (passing_none n (λ k less. misses k (omega (arith, less)))) ∙
      ap (λ (b : Bool). if b then n ∷ [] else []) (misses n (omega arith))

  -- one does
  pub passing_one : (n x : ℕ) → x < n → test x ≡ true → ((k : ℕ) → k < n → k ≢ x → test k ≡ false) → passing test n ≡ x ∷ []
  passing_one zero x here hits misses = absurd (omega (arith, here))
  passing_one (suc n) x here hits misses = elim (cases_eq n x) [
    | inl same ↦
        ap (λ (l : List ℕ). l ++ (if test n then n ∷ [] else []))
        (passing_none n (λ k less. misses k (omega (arith, less)) (λ it. absurd (omega (arith, less, same, it))))) ∙
        ap (λ (b : Bool). if b then n ∷ [] else []) (ap test same ∙ hits) ∙ ap (λ (k : ℕ). k ∷ []) same
    | inr differs ↦
        ap (λ (l : List ℕ). l ++ (if test n then n ∷ [] else []))
        (passing_one n x (omega (arith, here, differs)) hits (λ k less d. misses k (omega (arith, less)) d)) ∙
        ap (λ (b : Bool). x ∷ (if b then n ∷ [] else [])) (misses n (omega arith) differs)
  ]

-- two tests pass the same
pub passing_same : (test other : ℕ → Bool) (n : ℕ) → ((k : ℕ) → k < n → test k ≡ other k) → passing test n ≡ passing other n
passing_same test other zero same = refl
passing_same test other (suc n) same =
    ap (λ (l : List ℕ). l ++ (if test n then n ∷ [] else [])) (passing_same test other n (λ k less. same k (omega (arith, less)))) ∙
    ap (λ (b : Bool). passing other n ++ (if b then n ∷ [] else [])) (same n (omega arith))

not_less : (n : ℕ) → nat_lt n n ≡ false
not_less n = grind (arith, nat_tests)

less_more : (n : ℕ) → nat_lt n (n + 1) ≡ true
less_more n = grind (arith, nat_tests)

-- nothing has come
pub newcomer_none : (make : ℕ → Subject) (n m : ℕ) → m ≡ n → newcomer make n m ≡ []
newcomer_none make n m same = ap (newcomer make n) same ∙ ap (λ (b : Bool). if b then make n ∷ [] else []) (not_less n)

-- one thing has
pub newcomer_one : (make : ℕ → Subject) (n m : ℕ) → m ≡ n + 1 → newcomer make n m ≡ make n ∷ []
newcomer_one make n m more = ap (newcomer make n) more ∙ ap (λ (b : Bool). if b then make n ∷ [] else []) (less_more n)

-- ---- what each filter gives

module _ (give : ℕ → ℕ → List Subject) where
  nothing_from : (f : ℕ) (altitudes : List ℕ) → ((g a : ℕ) → f ≤ g → give g a ≡ []) → by_altitude give f altitudes ≡ []
  nothing_from f [] misses = refl
  nothing_from f (a ∷ altitudes) misses =
      ap (λ (l : List Subject). l ++ give f a) (nothing_from (f + 1) altitudes (λ g b more. misses g b (omega (arith, more)))) ∙
      misses f a (omega arith)

  one_from : (f : ℕ) (altitudes : List ℕ) (k a : ℕ) → slice_get altitudes k ≡ Some a → ((g b : ℕ) → g ≢ f + k → give g b ≡ []) →
      by_altitude give f altitudes ≡ give (f + k) a
  one_from f [] k a is misses = absurd (cc)
  one_from f (b ∷ altitudes) zero a is misses =
      let same : b ≡ a = cc in
      let here : f ≡ f + 0 = omega arith in
      ap (λ (l : List Subject). l ++ give f b)
      (nothing_from (f + 1) altitudes (λ g c more. misses g c (λ it. absurd (omega (arith, more, it))))) ∙
      ap (give f) same ∙ ap (λ (n : ℕ). give n a) here
  one_from f (b ∷ altitudes) (suc k) a is misses =
      let there : (f + 1) + k ≡ f + suc k = omega arith in
      ap (λ (l : List Subject). l ++ give f b) (one_from (f + 1) altitudes k a is (λ g c d. misses g c (λ it. d (it ∙ sym there)))) ∙
      ap (λ (l : List Subject). give ((f + 1) + k) a ++ l) (misses f b (λ it. absurd (omega (arith, it)))) ∙
      append-nil (give ((f + 1) + k) a) ∙ ap (λ (n : ℕ). give n a) there

  past_from : (f : ℕ) (altitudes : List ℕ) (k : ℕ) → slice_get altitudes k ≡ None → ((g b : ℕ) → g ≢ f + k → give g b ≡ []) →
      by_altitude give f altitudes ≡ []
  past_from f [] k is misses = refl
  past_from f (b ∷ altitudes) zero is misses = absurd (cc)
  past_from f (b ∷ altitudes) (suc k) is misses =
      let there : (f + 1) + k ≡ f + suc k = omega arith in
      ap (λ (l : List Subject). l ++ give f b) (past_from (f + 1) altitudes k is (λ g c d. misses g c (λ it. d (it ∙ sym there)))) ∙
      misses f b (λ it. absurd (omega (arith, it)))

  -- no filter gives anything
  pub by_altitude_none : (altitudes : List ℕ) → ((g a : ℕ) → give g a ≡ []) → by_altitude give 0 altitudes ≡ []
  by_altitude_none altitudes misses = nothing_from 0 altitudes (λ g a more. misses g a)

  -- one filter gives something
  pub by_altitude_one : (altitudes : List ℕ) (f a : ℕ) → slice_get altitudes f ≡ Some a → ((g b : ℕ) → g ≢ f → give g b ≡ []) →
      by_altitude give 0 altitudes ≡ give f a
  by_altitude_one altitudes f a is misses =
      let here : 0 + f ≡ f = omega arith in
      one_from 0 altitudes f a is (λ g b d. misses g b (λ it. d (it ∙ sym here))) ∙ ap (λ (n : ℕ). give n a) here

  -- or would, and isn't there
  pub by_altitude_past : (altitudes : List ℕ) (f : ℕ) → slice_get altitudes f ≡ None → ((g b : ℕ) → g ≢ f → give g b ≡ []) →
      by_altitude give 0 altitudes ≡ []
  by_altitude_past altitudes f is misses =
      let here : 0 + f ≡ f = omega arith in
      past_from 0 altitudes f is (λ g b d. misses g b (λ it. d (it ∙ sym here)))

  -- a walk from the lowest filter to the highest: one filter more
  pub by_altitude_step : (altitudes : List ℕ) (f : ℕ) → f < length altitudes →
      by_altitude give f (drop f altitudes) ≡ by_altitude give (f + 1) (drop (f + 1) altitudes) ++ give f (get_or altitudes f 0)
  by_altitude_step altitudes f here = ap (by_altitude give f) (drop_more altitudes f 0 here)

  -- and none yet
  pub by_altitude_start : (altitudes : List ℕ) (f : ℕ) → f ≡ length altitudes → by_altitude give f (drop f altitudes) ≡ []
  by_altitude_start altitudes f all =
      ap (by_altitude give f) (ap (λ (n : ℕ). drop n altitudes) all ∙ drop_all (length altitudes) altitudes (omega arith))
