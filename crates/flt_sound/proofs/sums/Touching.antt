-- What events touch of contexts, and the second half of V1 from it: each context that is used, lost or gained wasn't freed before, and
-- is of the activation's own filter. `CleanBy P` says it of a list of events, by what P says of an activation and a context; a Free is the
-- last event of its step, so what isn't freed before a step isn't freed before its last event.
-- Here P is that, a, b are activations, x, y contexts, w is the world, t the trace so far, e an event, es the events of a step.
use Rattle.std.proofs.Common.{◌≡◌, ℕ, ◌≤◌, Bool, true, false, List, [], ◌∷◌, ◌++◌, Option}
use Rattle.std.proofs.Common.{Some, None, subst, refl, ◌∙◌, arith, ◌⊎◌, inl, inr}
use Rattle.std.specs.Prelude.{◌&&◌, ◌==◌, if◌then◌else◌}
use Rattle.std.proofs.lemmas.Bool.{cases_eq, cases_lt, and_from}
use Rattle.std.proofs.lemmas.Bool.Decides.{nat_tests}
use Rattle.flt_model.specs.declared.event.Event.{Event}
use Rattle.flt_model.specs.declared.event.Event.TheVariants as event
use Rattle.flt_model.specs.declared.event.Object.{Object}
use Rattle.flt_model.specs.declared.event.Object.TheVariants.{Context, Visit}
use Rattle.flt_model.specs.Effects.{loses_context, gains_context, freed_by_drop}
use Rattle.flt_model.specs.Trace.{gain, free, gains, frees, one_if, of_actor}
use Rattle.flt_model.specs.Violations.{along, is_live, is_own}
use Rattle.flt_model.specs.World.{World, Store, context_at, actor_at}
use Rattle.flt_sound.proofs.sums.Belonging.{IsOf}
use Rattle.flt_sound.proofs.sums.Counts.{counts, of_actor-other, of_actor-none, one_if-same, one_if-other}
use Rattle.flt_sound.proofs.sums.Uses.{is_clean}

-- P holds of each activation and context that the events touch, and a Free is the last event
abbrev pub CleanBy : (ℕ → ℕ → Type 0) → List Event → Type 0
CleanBy P [] = Unit {0}
CleanBy P (event.Use b (Context x) ∷ es) = P b x × CleanBy P es
CleanBy P (event.Lose b (Context x) ∷ es) = P b x × CleanBy P es
CleanBy P (event.Gain b (Context x) ∷ es) = P b x × CleanBy P es
CleanBy P (event.Free x ∷ es) = es ≡ []
CleanBy P (_ ∷ es) = CleanBy P es

-- ---- such lists, event by event

-- P holds of what one event touches
abbrev TouchedBy : (ℕ → ℕ → Type 0) → Event → Type 0
TouchedBy P (event.Use b (Context x)) = P b x
TouchedBy P (event.Lose b (Context x)) = P b x
TouchedBy P (event.Gain b (Context x)) = P b x
TouchedBy P _ = Unit {0}

-- the first event of such a list, and the others: either it is the last, or it frees nothing
record Parts (P : ℕ → ℕ → Type 0) (e : Event) (es : List Event) : Type 0 where
  one : TouchedBy P e
  later : CleanBy P es
  last : (es ≡ []) ⊎ ((x : ℕ) → free x e ≡ 0)

module _ (P : ℕ → ℕ → Type 0) where
  parts : (e : Event) (es : List Event) → CleanBy P (e ∷ es) → Parts P e es
  parts (event.Use b (Context x)) es c = record { one = c.0; later = c.1; last = inr (λ x. refl) }
  parts (event.Use b (Visit v)) es c = record { one = tt; later = c; last = inr (λ x. refl) }
  parts (event.Lose b (Context x)) es c = record { one = c.0; later = c.1; last = inr (λ x. refl) }
  parts (event.Lose b (Visit v)) es c = record { one = tt; later = c; last = inr (λ x. refl) }
  parts (event.Gain b (Context x)) es c = record { one = c.0; later = c.1; last = inr (λ x. refl) }
  parts (event.Gain b (Visit v)) es c = record { one = tt; later = c; last = inr (λ x. refl) }
  parts (event.Free x) es c = record { one = tt; later = rw c tt; last = inl c }
  parts (event.Call b k) es c = record { one = tt; later = c; last = inr (λ x. refl) }
  parts (event.Status b k) es c = record { one = tt; later = c; last = inr (λ x. refl) }
  parts (event.Lock b k) es c = record { one = tt; later = c; last = inr (λ x. refl) }
  parts (event.Unlock b k) es c = record { one = tt; later = c; last = inr (λ x. refl) }
  parts (event.Empty b) es c = record { one = tt; later = c; last = inr (λ x. refl) }
  parts (event.Settle v) es c = record { one = tt; later = c; last = inr (λ x. refl) }
  parts (event.End b) es c = record { one = tt; later = c; last = inr (λ x. refl) }

  -- an event that frees nothing, before such a list
  one_more : (e : Event) (es : List Event) → TouchedBy P e → ((x : ℕ) → free x e ≡ 0) → CleanBy P es → CleanBy P (e ∷ es)
  one_more (event.Use b (Context x)) es h f c = (h, c)
  one_more (event.Use b (Visit v)) es h f c = c
  one_more (event.Lose b (Context x)) es h f c = (h, c)
  one_more (event.Lose b (Visit v)) es h f c = c
  one_more (event.Gain b (Context x)) es h f c = (h, c)
  one_more (event.Gain b (Visit v)) es h f c = c
  one_more (event.Free x) es h f c = absurd (omega (arith, f x, one_if-same x))
  one_more (event.Call b k) es h f c = c
  one_more (event.Status b k) es h f c = c
  one_more (event.Lock b k) es h f c = c
  one_more (event.Unlock b k) es h f c = c
  one_more (event.Empty b) es h f c = c
  one_more (event.Settle v) es h f c = c
  one_more (event.End b) es h f c = c

  -- one list after another, where the first frees nothing
  pub clean_append : (xs ys : List Event) → ((x : ℕ) → frees xs x ≡ 0) → CleanBy P xs → CleanBy P ys → CleanBy P (xs ++ ys)
  clean_append [] ys f c d = d
  clean_append (e ∷ xs) ys f c d =
      let q = parts e xs c in
      let first = λ (x : ℕ). let k = simp counts at (f x) in let none : free x e ≡ 0 = omega (arith, k) in none in
      let others = λ (x : ℕ). let k = simp counts at (f x) in let none : frees xs x ≡ 0 = omega (arith, k) in none in
      one_more e (xs ++ ys) q.one first (clean_append xs ys others q.later d)

  -- ---- the lists that calls are made of

  -- a use, and then such a list
  pub use_clean : (a : ℕ) (o : Object) (es : List Event) → ((x : ℕ) → o ≡ Context x → P a x) → CleanBy P es → CleanBy P (event.Use a o ∷ es)
  use_clean a (Context x) es h c = (h x refl, c)
  use_clean a (Visit v) es h c = c

  -- a reference is dropped
  pub drop_clean : (s : Store) (x : ℕ) → CleanBy P (freed_by_drop s x)
  drop_clean s x = by ((context_at s x).references == 1)
    where
      by : (b : Bool) → CleanBy P (if b then event.Free x ∷ [] else [])
      by true = refl
      by false = tt

  -- a context that may be there is gained
  pub given_clean : (a : ℕ) (x : Option ℕ) → ((y : ℕ) → x ≡ Some y → P a y) → CleanBy P (gains_context a x)
  given_clean a None h = tt
  given_clean a (Some y) h = (h y refl, tt)

  -- a context that may be there is lost, before such a list
  pub lost_clean : (a : ℕ) (x : Option ℕ) (es : List Event) → ((y : ℕ) → x ≡ Some y → P a y) → CleanBy P es →
      CleanBy P (loses_context a x ++ es)
  lost_clean a None es h c = c
  lost_clean a (Some y) es h c = (h y refl, c)

  -- a context that may be there is lost
  pub one_lost_clean : (a : ℕ) (x : Option ℕ) → ((y : ℕ) → x ≡ Some y → P a y) → CleanBy P (loses_context a x)
  one_lost_clean a None h = tt
  one_lost_clean a (Some y) h = (h y refl, tt)

  -- ---- what is gained is touched

  gain_here : (a x b y : ℕ) → P b y → 1 ≤ of_actor b a (one_if y x) → P a x
  gain_here a x b y h g =
      elim (cases_eq b a) [
        | inl e ↦ elim (cases_eq y x) [
          | inl f ↦ subst (λ y. P a y) f (subst (λ b. P b y) e h)
          | inr ne ↦ let none = rw (one_if-other y x ne) at g in absurd (omega (arith, none, of_actor-none b a))
        ]
        | inr ne ↦ absurd (omega (arith, g, of_actor-other b a (one_if y x) ne))
      ]

  gained_by_one : (a x : ℕ) (e : Event) → TouchedBy P e → 1 ≤ gain a (Context x) e → P a x
  gained_by_one a x (event.Gain b (Context y)) h g = gain_here a x b y h g
  gained_by_one a x (event.Gain b (Visit v)) h g = absurd (omega (arith, g, of_actor-none b a))
  gained_by_one a x (event.Use b o) h g = absurd (omega (arith, g))
  gained_by_one a x (event.Lose b o) h g = absurd (omega (arith, g))
  gained_by_one a x (event.Free y) h g = absurd (omega (arith, g))
  gained_by_one a x (event.Call b k) h g = absurd (omega (arith, g))
  gained_by_one a x (event.Status b k) h g = absurd (omega (arith, g))
  gained_by_one a x (event.Lock b k) h g = absurd (omega (arith, g))
  gained_by_one a x (event.Unlock b k) h g = absurd (omega (arith, g))
  gained_by_one a x (event.Empty b) h g = absurd (omega (arith, g))
  gained_by_one a x (event.Settle v) h g = absurd (omega (arith, g))
  gained_by_one a x (event.End b) h g = absurd (omega (arith, g))

  -- P holds of each context that the events gain an activation
  pub gained_of : (a x : ℕ) (es : List Event) → CleanBy P es → 1 ≤ gains es a (Context x) → P a x
  gained_of a x [] c g = let k = simp counts at g in absurd (omega (arith, k))
  gained_of a x (e ∷ es) c g =
      let q = parts e es c in
      let k = simp counts at g in
      elim (cases_lt 0 (gains es a (Context x))) [
        | inl later ↦ gained_of a x es q.later (omega (arith, later))
        | inr none ↦ gained_by_one a x e q.one (omega (arith, k, none))
      ]

-- ---- the test of V1's second half

-- the context wasn't freed, and is of the activation's own filter
abbrev pub Touch : World → List Event → ℕ → ℕ → Type 0
Touch w t b x = (frees t x ≡ 0) × IsOf w.store.contexts (actor_at w b).filter x

live_of : (t : List Event) (x : ℕ) → frees t x ≡ 0 → is_live t (Context x) ≡ true
unfolding is_live
live_of t x e = rw e refl

live_visit : (t : List Event) (v : ℕ) → is_live t (Visit v) ≡ true
unfolding is_live
live_visit t v = refl

own_of : (w : World) (b x : ℕ) → IsOf w.store.contexts (actor_at w b).filter x → is_own w b (Context x) ≡ true
own_of w b x h = equal _ _ h.owner
  where
    equal : (m n : ℕ) → m ≡ n → (m == n) ≡ true
    equal m n e = grind (arith, nat_tests)

module _ (w : World) (start : List Event) where
  touched : (t : List Event) (b x : ℕ) → frees t x ≡ frees start x → Touch w start b x →
      (is_live t (Context x) && is_own w b (Context x)) ≡ true
  touched t b x same h = and_from _ _ (live_of t x (same ∙ h.0)) (own_of w b x h.1)

  clean_one : (t : List Event) (e : Event) → ((x : ℕ) → frees t x ≡ frees start x) → TouchedBy (Touch w start) e → is_clean w t e ≡ true
  clean_one t (event.Use b (Context x)) same h = touched t b x (same x) h
  clean_one t (event.Use b (Visit v)) same h = rw (live_visit t v) refl
  clean_one t (event.Lose b (Context x)) same h = touched t b x (same x) h
  clean_one t (event.Lose b (Visit v)) same h = rw (live_visit t v) refl
  clean_one t (event.Gain b (Context x)) same h = touched t b x (same x) h
  clean_one t (event.Gain b (Visit v)) same h = rw (live_visit t v) refl
  clean_one t (event.Free x) same h = refl
  clean_one t (event.Call b k) same h = refl
  clean_one t (event.Status b k) same h = refl
  clean_one t (event.Lock b k) same h = refl
  clean_one t (event.Unlock b k) same h = refl
  clean_one t (event.Empty b) same h = refl
  clean_one t (event.Settle v) same h = refl
  clean_one t (event.End b) same h = refl

  -- events that touch what is live and the filter's own when the step starts pass the test, each after those before it
  pub clean_from : (t es : List Event) → ((x : ℕ) → frees t x ≡ frees start x) → CleanBy (Touch w start) es → along (is_clean w) t es ≡ true
  clean_from t [] same c = refl
  clean_from t (e ∷ es) same c =
      let q = parts (Touch w start) e es c in
      and_from _ _ (clean_one t e same q.one)
      (elim q.last [
        | inl none ↦ rw none refl
        | inr frees_none ↦ clean_from (t ++ e ∷ []) es (λ y. simp counts (omega (arith, same y, frees_none y))) q.later
      ])
