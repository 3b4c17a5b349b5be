-- Whether a lock is held where one was taken or released.
use Rattle.std.proofs.Common.{◌≡◌, ℕ, Bool, true, false, List, [], ◌∷◌, ◌++◌, ◌==◌, sym, refl, ap, ◌∙◌}
use Rattle.std.specs.Prelude.{not, ◌&&◌, ◌||◌, if◌then◌else◌, Option, Some, None}
use Rattle.std.specs.List.{list_any}
use Rattle.std.proofs.lemmas.Bool.{and_parts, and_from, or_from, not-true, eqb-true, eqb-false, eq-eqb, ne_eqb}
use Rattle.std.proofs.lemmas.List.Folds.{list_any-append}
use Rattle.flt_rules.specs.Call.{place_of}
use Rattle.flt_rules.specs.Held.{held, same_lock, holds_lock, without_last}
use Rattle.flt_rules.specs.declared.call.LockNumber.{LockNumber}
use Rattle.flt_rules.specs.declared.columns.LockChange.{LockChange}
use Rattle.flt_rules.specs.declared.columns.LockChange.TheVariants as list
use Rattle.flt_rules.specs.declared.held.Access.{Access}
use Rattle.flt_rules.specs.declared.held.HeldLock.{HeldLock}
use Rattle.flt_abs.specs.Locks.{are_locks}
use Rattle.flt_abs.specs.Step.{changed_locks}
use Rattle.flt_explain.specs.About.{is_lock}
use Rattle.flt_explain_origins.specs.Facts.{lock_change_of}

-- ---- one lock

-- whether a lock of this place is held
abbrev holds_place : ℕ → List HeldLock → Bool
holds_place p hs = list_any (λ (h : HeldLock). p == place_of h.lock) hs

-- two locks of one place are held or not alike
alike : (l m : LockNumber) (hs : List HeldLock) → same_lock l m ≡ true → holds_lock l hs ≡ holds_lock m hs
alike l m hs e = ap (λ p. holds_place p hs) (eqb-true (place_of l) (place_of m) e)

turned : (l m : LockNumber) → same_lock l m ≡ false → same_lock m l ≡ false
turned l m h = ne_eqb (place_of m) (place_of l) (λ e. eqb-false (place_of l) (place_of m) h (sym e))

back : (l m : LockNumber) → same_lock l m ≡ true → same_lock m l ≡ true
back l m h = eq-eqb (place_of m) (place_of l) (sym (eqb-true (place_of l) (place_of m) h))

-- a lock beside one of two that are the same is beside the other
beside : (l m k : LockNumber) → same_lock l m ≡ false → same_lock m k ≡ true → same_lock l k ≡ false
beside l m k apart same = ap (λ p. place_of l == p) (sym (eqb-true (place_of m) (place_of k) same)) ∙ apart

-- ---- taken

-- one more lock
more : (l m : LockNumber) (a : Access) (hs : List HeldLock) →
    holds_lock l (hs ++ held m a ∷ []) ≡ (holds_lock l hs || (same_lock l m || false))
more l m a hs = list_any-append (λ (h : HeldLock). same_lock l h.lock) hs (held m a ∷ [])

or_true : (x y : Bool) → y ≡ true → (x || (y || false)) ≡ true
or_true true y e = refl
or_true false true e = refl
or_true false false e = cc

or_false : (x y : Bool) → y ≡ false → (x || (y || false)) ≡ x
or_false true y e = refl
or_false false false e = refl
or_false false true e = cc

taken_same : (l m : LockNumber) (a : Access) (hs : List HeldLock) → same_lock l m ≡ true →
    holds_lock l (changed_locks hs m (list.Taken a)) ≡ true
taken_same l m a hs e = by_held (holds_lock m hs) refl
  where
    by_held : (b : Bool) → holds_lock m hs ≡ b → holds_lock l (if b then hs else hs ++ held m a ∷ []) ≡ true
    by_held true h = alike l m hs e ∙ h
    by_held false h = more l m a hs ∙ or_true (holds_lock l hs) (same_lock l m) e

taken_other : (l m : LockNumber) (a : Access) (hs : List HeldLock) → same_lock l m ≡ false →
    holds_lock l (changed_locks hs m (list.Taken a)) ≡ holds_lock l hs
taken_other l m a hs e = by_held (holds_lock m hs)
  where
    by_held : (b : Bool) → holds_lock l (if b then hs else hs ++ held m a ∷ []) ≡ holds_lock l hs
    by_held true = refl
    by_held false = more l m a hs ∙ or_false (holds_lock l hs) (same_lock l m) e

-- ---- released

released_other : (l m : LockNumber) (hs : List HeldLock) → same_lock l m ≡ false → holds_lock l (without_last m hs) ≡ holds_lock l hs
released_other l m [] e = refl
released_other l m (k ∷ hs) e = by_first (same_lock m k.lock) refl (not (holds_lock m hs)) (released_other l m hs e)
  where
    by_first : (b : Bool) → same_lock m k.lock ≡ b → (c : Bool) → holds_lock l (without_last m hs) ≡ holds_lock l hs →
        holds_lock l (if b && c then hs else k ∷ without_last m hs) ≡ (same_lock l k.lock || holds_lock l hs)
    by_first true same true rest = sym (ap (λ b. b || holds_lock l hs) (beside l m k.lock e same))
    by_first true same false rest = ap (λ b. same_lock l k.lock || b) rest
    by_first false same c rest = ap (λ b. same_lock l k.lock || b) rest

released_same : (l m : LockNumber) (hs : List HeldLock) → are_locks hs ≡ true → same_lock l m ≡ true →
    holds_lock l (without_last m hs) ≡ false
released_same l m [] h e = refl
released_same l m (k ∷ hs) h e =
    let parts = and_parts (not (holds_lock k.lock hs)) (are_locks hs) h in
    by_first (same_lock m k.lock) refl (not-true _ parts.0) (released_same l m hs parts.1 e)
  where
    by_first : (b : Bool) → same_lock m k.lock ≡ b → holds_lock k.lock hs ≡ false → holds_lock l (without_last m hs) ≡ false →
        holds_lock l (if b && not (holds_lock m hs) then hs else k ∷ without_last m hs) ≡ false
    by_first true same once rest =
        let gone : holds_lock m hs ≡ false = alike m k.lock hs same ∙ once in
        ap (λ c. holds_lock l (if not c then hs else k ∷ without_last m hs)) gone ∙ alike l m hs e ∙ gone
    by_first false other once rest = or_from _ _ (ap (λ p. p == place_of k.lock) (eqb-true (place_of l) (place_of m) e) ∙ other) rest

-- ---- any change

-- the locks where the one that is named was changed
abbrev pub locks_named : Option LockNumber → LockChange → List HeldLock → List HeldLock
locks_named (Some l) change hs = changed_locks hs l change
locks_named None change hs = hs

-- whether a lock is held behind a change of it
abbrev pub held_after : LockChange → Bool → Bool
held_after list.Stays b = b
held_after (list.Taken a) b = true
held_after list.Released b = false

by_same : (l m : LockNumber) (change : LockChange) (hs : List HeldLock) → are_locks hs ≡ true → (b : Bool) → same_lock l m ≡ b →
    holds_lock l (changed_locks hs m change) ≡ held_after (lock_change_of b change) (holds_lock l hs)
by_same l m list.Stays hs h true e = refl
by_same l m list.Stays hs h false e = refl
by_same l m (list.Taken a) hs h true e = taken_same l m a hs e
by_same l m (list.Taken a) hs h false e = taken_other l m a hs e
by_same l m list.Released hs h true e = released_same l m hs h e
by_same l m list.Released hs h false e = released_other l m hs e

turned_round : (l m : LockNumber) (b : Bool) → same_lock m l ≡ b → same_lock l m ≡ b
turned_round l m true e = back m l e
turned_round l m false e = turned m l e

-- whether a lock is held where the one that is named was changed
pub holds_after : (n : Option LockNumber) (change : LockChange) (l : LockNumber) (hs : List HeldLock) → are_locks hs ≡ true →
    holds_lock l (locks_named n change hs) ≡ held_after (lock_change_of (is_lock n l) change) (holds_lock l hs)
holds_after None change l hs h = refl
holds_after (Some m) change l hs h = by_same l m change hs h (same_lock m l) (turned_round l m (same_lock m l) refl)

-- ---- no lock is held twice

or_split : (x y : Bool) → (x || y) ≡ false → (x ≡ false) × (y ≡ false)
or_split false y e = (refl, e)
or_split true y e = cc

taken_once : (m : LockNumber) (a : Access) (hs : List HeldLock) → are_locks hs ≡ true → holds_lock m hs ≡ false →
    are_locks (hs ++ held m a ∷ []) ≡ true
taken_once m a [] h e = refl
taken_once m a (k ∷ hs) h e =
    let parts = and_parts (not (holds_lock k.lock hs)) (are_locks hs) h in
    let split = or_split (same_lock m k.lock) (holds_lock m hs) e in
    let off : holds_lock k.lock (hs ++ held m a ∷ []) ≡ false =
    more k.lock m a hs ∙ or_false (holds_lock k.lock hs) (same_lock k.lock m) (turned m k.lock split.0) ∙ not-true _ parts.0 in
    and_from _ _ (ap not off) (taken_once m a hs parts.1 split.1)

released_once : (m : LockNumber) (hs : List HeldLock) → are_locks hs ≡ true → are_locks (without_last m hs) ≡ true
released_once m [] h = refl
released_once m (k ∷ hs) h =
    let parts = and_parts (not (holds_lock k.lock hs)) (are_locks hs) h in
    by_first (same_lock m k.lock) refl (not (holds_lock m hs)) (not-true _ parts.0) parts.1 (released_once m hs parts.1)
  where
    by_first : (b : Bool) → same_lock m k.lock ≡ b → (c : Bool) → holds_lock k.lock hs ≡ false → are_locks hs ≡ true →
        are_locks (without_last m hs) ≡ true →
        are_locks (if b && c then hs else k ∷ without_last m hs) ≡ true
    by_first true same true once rest left = rest
    by_first true same false once rest left = and_from _ _ (ap not (released_same k.lock m hs rest (back m k.lock same))) left
    by_first false other c once rest left = and_from _ _ (ap not (released_other k.lock m hs (turned m k.lock other) ∙ once)) left

-- where no lock is held twice, none is behind a change of the one that is named
pub locks_once : (n : Option LockNumber) (change : LockChange) (hs : List HeldLock) → are_locks hs ≡ true →
    are_locks (locks_named n change hs) ≡ true
locks_once None change hs h = h
locks_once (Some l) list.Stays hs h = h
locks_once (Some l) (list.Taken a) hs h = by_held (holds_lock l hs) refl
  where
    by_held : (b : Bool) → holds_lock l hs ≡ b → are_locks (if b then hs else hs ++ held l a ∷ []) ≡ true
    by_held true e = h
    by_held false e = taken_once l a hs h e
locks_once (Some l) list.Released hs h = released_once l hs h
