-- Lists of which each element is so, and that they stay so as queues and frames change. What the store has in queues, frames and items
-- is told by such lists: each entry is a visit of its filter, each frame has its post callback. P says what is so of an element.
use Rattle.std.proofs.Common.{◌≡◌, ◌≢◌, ℕ, ◌<◌, zero, suc, Bool, true, false, List, [], ◌∷◌}
use Rattle.std.proofs.Common.{◌++◌, length, take, drop, Option, Some, subst, inl, inr}
use Rattle.std.specs.Prelude.{find, if◌then◌else◌}
use Rattle.std.specs.List.{before_first, after_first}
use Rattle.std.proofs.Math.ListN.{set, get_or}
use Rattle.std.proofs.lemmas.Bool.{cases_eq, cases_lt}
use Rattle.std.proofs.lemmas.List.{get_or-set_same, get_or-set_other, get_or_past, set_past}
use Rattle.flt_model.specs.Moves.{without_last, last_frame}
use Rattle.flt_model.specs.World.{Route, Frame, no_route}

-- P holds of each element
abbrev pub Each : {X : Type 0} → (X → Type 0) → List X → Type 0
Each P [] = Unit {0}
Each P (x ∷ xs) = P x × Each P xs

-- ---- the element at a number

-- a number at which the default doesn't stand is one of the list's
pub within : {X : Type 0} (l : List X) (i : ℕ) (d : X) → (get_or l i d ≡ d → ⊥) → i < length l
within l i d h =
    elim (cases_lt i (length l)) [
      | inl there ↦ there
      | inr past ↦ absurd (h (get_or_past l i d past))
    ]

-- where one element is set, what holds of it and of each other element holds of each
pub at_set : {X : Type 0} (Q : ℕ → X → Type 0) (l : List X) (i : ℕ) (x d : X) → i < length l → Q i x →
    ((j : ℕ) → j ≢ i → Q j (get_or l j d)) →
    (j : ℕ) → Q j (get_or (set l i x) j d)
at_set Q l i x d there e h j =
    elim (cases_eq j i) [
      | inl same ↦ rw (same, get_or-set_same l i x d there) e
      | inr ne ↦ rw (get_or-set_other l i j x d ne) (h j ne)
    ]

-- the same where the element may not be there
kept_by_set : {X : Type 0} (Q : ℕ → X → Type 0) (l : List X) (i : ℕ) (x d : X) → ((j : ℕ) → Q j (get_or l j d)) → Q i x →
    (j : ℕ) → Q j (get_or (set l i x) j d)
kept_by_set Q l i x d h e j =
    elim (cases_lt i (length l)) [
      | inl there ↦ at_set Q l i x d there e (λ j ne. h j) j
      | inr past ↦ rw (set_past l i x past) (h j)
    ]

-- ---- one more, or one changed

-- one element more, of which P holds
pub each_push : {X : Type 0} (P : X → Type 0) (xs : List X) (x : X) → Each P xs → P x → Each P (xs ++ x ∷ [])
each_push P [] x h e = (e, tt)
each_push P (y ∷ xs) x h e = (h.0, each_push P xs x h.1 e)

-- one of several lists changes, each with a P of its own: what is so of its elements is so of the new list
pub each_set : {X : Type 0} (P : ℕ → X → Type 0) (lists : List (List X)) (f : ℕ) (l : List X) → ((g : ℕ) → Each (P g) (get_or lists g [])) →
    Each (P f) l → (g : ℕ) → Each (P g) (get_or (set lists f l) g [])
each_set P lists f l h e = kept_by_set (λ g l. Each (P g) l) lists f l [] h e

-- the same of the frames of one of the routes
pub route_set : (P : ℕ → Frame → Type 0) (routes : List Route) (o : ℕ) (r : Route) →
    ((q : ℕ) → Each (P q) (get_or routes q no_route).frames) →
    Each (P o) r.frames → (q : ℕ) → Each (P q) (get_or (set routes o r) q no_route).frames
route_set P routes o r h e = kept_by_set (λ q (r : Route). Each (P q) r.frames) routes o r no_route h e

-- ---- parts of a list

-- two lists, each of which has only elements of which P holds
each_append : {X : Type 0} (P : X → Type 0) (xs ys : List X) → Each P xs → Each P ys → Each P (xs ++ ys)
each_append P [] ys h e = e
each_append P (x ∷ xs) ys h e = (h.0, each_append P xs ys h.1 e)

-- what holds of each holds of the first n
each_take : {X : Type 0} (P : X → Type 0) (n : ℕ) (xs : List X) → Each P xs → Each P (take n xs)
each_take P zero xs h = tt
each_take P (suc n) [] h = tt
each_take P (suc n) (x ∷ xs) h = (h.0, each_take P n xs h.1)

-- and of all but the first n
each_drop : {X : Type 0} (P : X → Type 0) (n : ℕ) (xs : List X) → Each P xs → Each P (drop n xs)
each_drop P zero xs h = h
each_drop P (suc n) [] h = tt
each_drop P (suc n) (x ∷ xs) h = each_drop P n xs h.1

-- what holds of each holds of all but the first that passes a test
pub each_others : {X : Type 0} (P : X → Type 0) (test : X → Bool) (xs : List X) → Each P xs →
    Each P (before_first test xs ++ after_first test xs)
each_others P test xs h = each_append P (before_first test xs) (after_first test xs) (each_take P _ xs h) (each_drop P _ xs h)

find_by : {X : Type 0} (P : X → Type 0) (x y : X) (o : Option X) (b : Bool) → P x → (o ≡ Some y → P y) →
    (if b then Some x else o) ≡ Some y → P y
find_by P x y o true h f e = let same : x ≡ y = cc in subst P same h
find_by P x y o false h f e = f e

-- P holds of the first that passes a test
pub each_find : {X : Type 0} (P : X → Type 0) (test : X → Bool) (xs : List X) (y : X) → Each P xs → find test xs ≡ Some y → P y
each_find P test [] y h e = absurd (cc)
each_find P test (x ∷ xs) y h e = find_by P x y (find test xs) (test x) h.0 (each_find P test xs y h.1) e

-- what holds of each frame holds of all but the last
pub each_without_last : (P : Frame → Type 0) (xs : List Frame) → Each P xs → Each P (without_last xs)
each_without_last P [] h = tt
each_without_last P (f ∷ []) h = tt
each_without_last P (f ∷ g ∷ xs) h = (h.0, each_without_last P (g ∷ xs) h.1)

-- and of the last
pub each_last : (P : Frame → Type 0) (xs : List Frame) (y : Frame) → Each P xs → last_frame xs ≡ Some y → P y
each_last P [] y h e = absurd (cc)
each_last P (f ∷ []) y h e = let same : f ≡ y = cc in subst P same h.0
each_last P (f ∷ g ∷ xs) y h e = each_last P (g ∷ xs) y h.1 e

-- where P gives Q, a list of the one is a list of the other
pub each_map : {X : Type 0} (P Q : X → Type 0) (xs : List X) → ((x : X) → P x → Q x) → Each P xs → Each Q xs
each_map P Q [] f h = tt
each_map P Q (x ∷ xs) f h = (f x h.0, each_map P Q xs f h.1)
