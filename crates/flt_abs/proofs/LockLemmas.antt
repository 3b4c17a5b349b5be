-- A list of locks has eight at most, and stays one as locks are taken and released.
use Rattle.std.proofs.Common.{◌≡◌, ◌<◌, ◌≤◌, ◌+◌, ◌-◌, ℕ, suc, Bool, true, false, List, [], ◌∷◌, ◌++◌}
use Rattle.std.proofs.Common.{length, sym, refl, ap, subst, arith, ◌∙◌, length-append, Some, None}
use native.Mathlib.Numerals.{unary_clauses}
use Rattle.std.specs.Prelude.{not, ◌&&◌, nat_lt, slice_index_or, if◌then◌else◌}
use Rattle.std.specs.List.{position, position_or_len, remove}
use Rattle.std.proofs.lemmas.Bool.{and_parts, and_from, or_parts, or_from, not-true, ltb-true, ltb-false, eqb-true, not_from_false}
use Rattle.flt_rules.specs.Call.{place_of}
use Rattle.flt_rules.specs.Held.{held, same_lock, holds_lock, is_latest, without_last, same_locks}
use Rattle.flt_rules.specs.declared.call.LockNumber.{LockNumber}
use Rattle.flt_rules.specs.declared.held.Access.{Access}
use Rattle.flt_rules.specs.declared.held.HeldLock.{HeldLock}
use Rattle.flt_abs.specs.Locks.{are_locks}
use Rattle.flt_abs.specs.LockLaws.{one_lock, turned, eight_at_most}

-- ---- a lock is taken

-- one more that isn't held can be taken
pub are_locks_more : (hs : List HeldLock) (l : LockNumber) (a : Access) → are_locks hs ≡ true → holds_lock l hs ≡ false →
    are_locks (hs ++ held l a ∷ []) ≡ true
are_locks_more [] l a h new = refl
are_locks_more (k ∷ hs) l a h new =
    let parts = and_parts (not (holds_lock k.lock hs)) (are_locks hs) h in
    let apart = or_parts (same_lock l k.lock) (holds_lock l hs) new in
    and_from _ _ (not_from_false _ (more k.lock hs (not-true _ parts.0) (turned l k.lock apart.0))) (are_locks_more hs l a parts.1 apart.1)
  where
    more : (q : LockNumber) (hs : List HeldLock) → holds_lock q hs ≡ false → same_lock q l ≡ false →
        holds_lock q (hs ++ held l a ∷ []) ≡ false
    more q [] h new = or_from _ _ new refl
    more q (r ∷ hs) h new = let parts = or_parts (same_lock q r.lock) (holds_lock q hs) h in or_from _ _ parts.0 (more q hs parts.1 new)

-- and leaves room before
pub seven_at_most : (hs : List HeldLock) (l : LockNumber) (a : Access) → are_locks hs ≡ true → holds_lock l hs ≡ false → length hs + 1 ≤ 8
seven_at_most hs l a h new =
    let all = eight_at_most (hs ++ held l a ∷ []) (are_locks_more hs l a h new) in omega (arith, all, length-append hs (held l a ∷ []))

-- ---- a lock is released

-- a lock that isn't held isn't held either when one is released
fewer : (q l : LockNumber) (hs : List HeldLock) → holds_lock q hs ≡ false → holds_lock q (without_last l hs) ≡ false
fewer q l [] h = refl
fewer q l (k ∷ hs) h =
    let parts = or_parts (same_lock q k.lock) (holds_lock q hs) h in
    by_first (same_lock l k.lock && not (holds_lock l hs)) hs (k ∷ without_last l hs) parts.1 (or_from _ _ parts.0 (fewer q l hs parts.1))
  where
    by_first : (b : Bool) (xs ys : List HeldLock) → holds_lock q xs ≡ false → holds_lock q ys ≡ false →
        holds_lock q (if b then xs else ys) ≡ false
    by_first true xs ys h k = h
    by_first false xs ys h k = k

-- what is left is a list of locks
pub are_locks_without : (l : LockNumber) (hs : List HeldLock) → are_locks hs ≡ true → are_locks (without_last l hs) ≡ true
are_locks_without l [] h = refl
are_locks_without l (k ∷ hs) h =
    let parts = and_parts (not (holds_lock k.lock hs)) (are_locks hs) h in
    by_first (same_lock l k.lock && not (holds_lock l hs)) hs (k ∷ without_last l hs) parts.1
    (and_from _ _ (not_from_false _ (fewer k.lock l hs (not-true _ parts.0))) (are_locks_without l hs parts.1))
  where
    by_first : (b : Bool) (xs ys : List HeldLock) → are_locks xs ≡ true → are_locks ys ≡ true → are_locks (if b then xs else ys) ≡ true
    by_first true xs ys h k = h
    by_first false xs ys h k = k

abbrev is_of : LockNumber → HeldLock → Bool
is_of l h = same_lock l h.lock

abbrev first_of : LockNumber → List HeldLock → ℕ
first_of l hs = position_or_len (λ (h : HeldLock). same_lock l h.lock) hs

remove_later : (k : HeldLock) (hs : List HeldLock) (n : ℕ) → remove (k ∷ hs) (1 + n) ≡ k ∷ remove hs n
remove_later k hs n = let e : 1 + n ≡ suc n = omega arith in rw e refl

-- the first of a lock is the last, since it stands in the list once
removed : (l : LockNumber) (hs : List HeldLock) → are_locks hs ≡ true → first_of l hs < length hs →
    remove hs (first_of l hs) ≡ without_last l hs
removed l [] h e = absurd (omega arith)
removed l (k ∷ hs) h e =
    let parts = and_parts (not (holds_lock k.lock hs)) (are_locks hs) h in
    by_first (same_lock l k.lock) refl (not-true _ parts.0) (first_of l hs) e (removed l hs parts.1)
  where
    by_first : (b : Bool) → same_lock l k.lock ≡ b → holds_lock k.lock hs ≡ false → (n : ℕ) →
        (if not b then 1 + n else 0) < suc (length hs) →
        (n < length hs → remove hs n ≡ without_last l hs) →
        remove (k ∷ hs) (if not b then 1 + n else 0) ≡ (if b && not (holds_lock l hs) then hs else k ∷ without_last l hs)
    by_first true same once n e rest =
        let one : k.lock ≡ l = sym (one_lock l k.lock (eqb-true (place_of l) (place_of k.lock) same)) in
        let gone : holds_lock l hs ≡ false = subst (λ m. holds_lock m hs ≡ false) one once in
        rw gone refl
    by_first false other once n e rest = remove_later k hs n ∙ ap (λ z. k ∷ z) (rest (omega arith))

unchanged : (l : LockNumber) (hs : List HeldLock) → length hs ≤ first_of l hs → without_last l hs ≡ hs
unchanged l [] e = refl
unchanged l (k ∷ hs) e = by_first (same_lock l k.lock) (first_of l hs) e (unchanged l hs)
  where
    by_first : (b : Bool) (n : ℕ) → suc (length hs) ≤ (if not b then 1 + n else 0) → (length hs ≤ n → without_last l hs ≡ hs) →
        (if b && not (holds_lock l hs) then hs else k ∷ without_last l hs) ≡ k ∷ hs
    by_first true n e rest = absurd (omega arith)
    by_first false n e rest = ap (λ z. k ∷ z) (rest (omega arith))

-- the list without the lock at the place where it was found
pub without_found : (l : LockNumber) (hs : List HeldLock) (place : ℕ) → are_locks hs ≡ true →
    position (λ (h : HeldLock). same_lock l h.lock) hs ≡ Some place → remove hs place ≡ without_last l hs
without_found l hs place h e = by_found (nat_lt (first_of l hs) (length hs)) refl e
  where
    by_found : (b : Bool) → nat_lt (first_of l hs) (length hs) ≡ b → (if b then Some (first_of l hs) else None) ≡ Some place →
        remove hs place ≡ without_last l hs
    by_found true t e = let same : first_of l hs ≡ place = cc in
        subst (λ n. remove hs n ≡ without_last l hs) same (removed l hs h (ltb-true _ _ t))
    by_found false t e = cc

-- a lock that wasn't found doesn't go
pub without_none : (l : LockNumber) (hs : List HeldLock) → position (λ (h : HeldLock). same_lock l h.lock) hs ≡ None →
    without_last l hs ≡ hs
without_none l hs e = by_found (nat_lt (first_of l hs) (length hs)) refl e
  where
    by_found : (b : Bool) → nat_lt (first_of l hs) (length hs) ≡ b → (if b then Some (first_of l hs) else None) ≡ None →
        without_last l hs ≡ hs
    by_found true t e = cc
    by_found false t e = unchanged l hs (ltb-false _ _ t)

-- ---- lists as slices

-- a list isn't the same as an empty one
pub more_not_same : (hs ks : List HeldLock) → 1 ≤ length hs → length ks ≡ 0 → same_locks hs ks ≡ false
more_not_same [] ks h e = absurd (omega arith)
more_not_same (x ∷ hs) [] h e = refl
more_not_same (x ∷ hs) (y ∷ ks) h e = absurd (omega arith)

-- the latest is the last
pub latest_at : (l : LockNumber) (d : HeldLock) (hs : List HeldLock) → 1 ≤ length hs →
    same_lock l (slice_index_or hs (length hs - 1) d).lock ≡ is_latest l hs
latest_at l d [] h = absurd (omega arith)
latest_at l d (k ∷ []) h = refl
latest_at l d (k ∷ r ∷ hs) h = simp unary_clauses (simp unary_clauses at (latest_at l d (r ∷ hs) (omega arith)))
