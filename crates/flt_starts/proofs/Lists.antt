-- What holds of all that is in lists, after one is set, pushed or taken out.
use Rattle.std.proofs.Common.{◌≡◌, ◌<◌, ◌⊎◌, ℕ, zero, suc, Bool, true, false, cond, List, [], ◌∷◌}
use Rattle.std.proofs.Common.{◌++◌, length, Option, Some, None, inl, inr, refl, subst, arith}
use Rattle.std.proofs.Math.ListN.{get_or, set}
use Rattle.std.proofs.lemmas.List.{length-append, get_or_append_left}
use Rattle.std.proofs.lemmas.List.Elements.{All-cons, All-head, All-nil, All-tail}
use Rattle.std.specs.List.{All}
use Rattle.std.specs.Prelude.{find}
use Rattle.flt_model.specs.Moves.{last_frame, without_last}
use Rattle.flt_model.specs.World.{Frame}

-- ---- lists that only grow

-- what is there stays
abbrev pub Grows : {A : Type 0} → A → List A → List A → Type 0
Grows d xs ys = (n : ℕ) → n < length xs → (n < length ys) × (get_or ys n d ≡ get_or xs n d)

-- a list that stays has grown by nothing
pub stays : {A : Type 0} (d : A) (xs : List A) → Grows d xs xs
stays d xs n h = (h, refl)

-- a list to which an element is pushed has grown
pub pushed : {A : Type 0} (d : A) (xs : List A) (x : A) → Grows d xs (xs ++ x ∷ [])
pushed d xs x n h = (omega (arith, length-append xs (x ∷ [])), get_or_append_left xs (x ∷ []) d n h)

-- ---- elements by number

-- after one is set
pub set_keeps : {A : Type 0} (P : ℕ → A → Type 0) (xs : List A) (i : ℕ) (x d : A) → ((n : ℕ) → P n (get_or xs n d)) → P i x →
    (n : ℕ) → P n (get_or (set xs i x) n d)
set_keeps P [] i x d h k n = h n
set_keeps P (y ∷ xs) zero x d h k zero = k
set_keeps P (y ∷ xs) zero x d h k (suc n) = h (suc n)
set_keeps P (y ∷ xs) (suc i) x d h k zero = h zero
set_keeps P (y ∷ xs) (suc i) x d h k (suc n) = set_keeps (λ m. P (suc m)) xs i x d (λ m. h (suc m)) k n

-- after one is pushed
pub push_keeps : {A : Type 0} (P : A → Type 0) (xs : List A) (x d : A) → ((n : ℕ) → P (get_or xs n d)) → P x →
    (n : ℕ) → P (get_or (xs ++ x ∷ []) n d)
push_keeps P [] x d h k zero = k
push_keeps P [] x d h k (suc n) = h n
push_keeps P (y ∷ xs) x d h k zero = h zero
push_keeps P (y ∷ xs) x d h k (suc n) = push_keeps P xs x d (λ m. h (suc m)) k n

-- after one is pushed onto each of two lists of one length
pub push_both : {A B : Type 0} (P : A → B → Type 0) (xs : List A) (ys : List B) (x d : A) (y e : B) → length xs ≡ length ys →
    ((n : ℕ) → P (get_or xs n d) (get_or ys n e)) → P x y → (n : ℕ) → P (get_or (xs ++ x ∷ []) n d) (get_or (ys ++ y ∷ []) n e)
push_both P [] [] x d y e l h k zero = k
push_both P [] [] x d y e l h k (suc n) = h n
push_both P [] (v ∷ ys) x d y e l h k n = absurd (omega arith)
push_both P (u ∷ xs) [] x d y e l h k n = absurd (omega arith)
push_both P (u ∷ xs) (v ∷ ys) x d y e l h k zero = h zero
push_both P (u ∷ xs) (v ∷ ys) x d y e l h k (suc n) = push_both P xs ys x d y e (omega arith) (λ m. h (suc m)) k n

-- what is read after one is set is that one, or was there
pub set_or : {A : Type 0} (xs : List (Option A)) (i : ℕ) (x : Option A) (n : ℕ) (y : A) → get_or (set xs i x) n None ≡ Some y →
    (x ≡ Some y) ⊎ (get_or xs n None ≡ Some y)
set_or [] i x n y h = inr h
set_or (z ∷ xs) zero x zero y h = inl h
set_or (z ∷ xs) zero x (suc n) y h = inr h
set_or (z ∷ xs) (suc i) x zero y h = inr h
set_or (z ∷ xs) (suc i) x (suc n) y h = set_or xs i x n y h

-- ---- elements that are taken out

-- the one that is found
pub find_all : {A : Type 0} (P : A → Type 0) (test : A → Bool) (xs : List A) (x : A) → All P xs → find test xs ≡ Some x → P x
find_all P test [] x h e = absurd (cc)
find_all P test (y ∷ xs) x h e = by (test y) e (λ k. find_all P test xs x (All-tail P y xs h) k)
  where
    by : (b : Bool) → cond b (Some y) (find test xs) ≡ Some x → (find test xs ≡ Some x → P x) → P x
    by true k rest = let equal : y ≡ x = cc in subst P equal (All-head P y xs h)
    by false k rest = rest k

-- the last frame, and the others
pub last_all : (P : Frame → Type 0) (frames : List Frame) (x : Frame) → All P frames → last_frame frames ≡ Some x → P x
last_all P [] x h e = absurd (cc)
last_all P (y ∷ []) x h e = let equal : y ≡ x = cc in subst P equal (All-head P y [] h)
last_all P (y ∷ z ∷ frames) x h e = last_all P (z ∷ frames) x (All-tail P y (z ∷ frames) h) e

-- what holds of all frames holds of all but the last
pub without_last_all : (P : Frame → Type 0) (frames : List Frame) → All P frames → All P (without_last frames)
without_last_all P [] h = h
without_last_all P (y ∷ []) h = All-nil P
without_last_all P (y ∷ z ∷ frames) h =
    All-cons P y (without_last (z ∷ frames)) (All-head P y (z ∷ frames) h)
    (without_last_all P (z ∷ frames) (All-tail P y (z ∷ frames) h))
