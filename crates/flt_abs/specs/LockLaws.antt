-- Locks and their places; lists of held locks, which have eight at most and are compared as they stand.
use Rattle.std.proofs.Common.{◌≡◌, ◌<◌, ◌≤◌, ℕ, suc, Bool, true, false, List, [], ◌∷◌, length, refl, sym, ap, subst, arith, ◌∙◌, lit<}
use Rattle.std.specs.Prelude.{not, ◌==◌, ◌||◌, if◌then◌else◌, Option, Some, None}
use Rattle.std.specs.List.{list_any, IsDistinct, AllByRecursion}
use Rattle.std.specs.Bool.{Decides}
use Rattle.std.proofs.lemmas.Bool.{and_parts, and_from, or_parts, not-true, eqb-true, eqb-false, eq-eqb, ne_eqb}
use Rattle.std.proofs.lemmas.Map.Steps.{length-le_from_distinct_below}
use Rattle.std.proofs.lemmas.Option.{none-some}
use Rattle.flt_rules.specs.Call.{place_of, lock_at}
use Rattle.flt_rules.specs.Held.{held, same_lock, same_access, same_held, holds_lock, same_locks}
use Rattle.flt_rules.specs.declared.call.LockNumber.{LockNumber}
use Rattle.flt_rules.specs.declared.call.LockNumber.TheVariants.{L0, L1, L2, L3, L4, L5, L6, L7}
use Rattle.flt_rules.specs.declared.held.Access.{Access}
use Rattle.flt_rules.specs.declared.held.Access.TheVariants.{Exclusive, Shared}
use Rattle.flt_rules.specs.declared.held.HeldLock.{HeldLock}
use Rattle.flt_abs.specs.Locks.{are_locks}

-- ---- numbers

-- each lock is the one at its place
pub lock_at-place_of : (l : LockNumber) → lock_at (place_of l) ≡ Some l
lock_at-place_of L0 = refl
lock_at-place_of L1 = refl
lock_at-place_of L2 = refl
lock_at-place_of L3 = refl
lock_at-place_of L4 = refl
lock_at-place_of L5 = refl
lock_at-place_of L6 = refl
lock_at-place_of L7 = refl

one_of_eight : (b : Bool) (n m : ℕ) (k l : LockNumber) (rest : Option LockNumber) → (n == m) ≡ b → place_of k ≡ m →
    (rest ≡ Some l → place_of l ≡ n) → (if b then Some k else rest) ≡ Some l → place_of l ≡ n
one_of_eight true n m k l rest e h f s = let same : k ≡ l = cc in sym (ap place_of same) ∙ h ∙ sym (eqb-true n m e)
one_of_eight false n m k l rest e h f s = f s

-- the lock at a place has that place
pub place_of-lock_at : (n : ℕ) (l : LockNumber) → lock_at n ≡ Some l → place_of l ≡ n
place_of-lock_at n l =
    one_of_eight (n == 0) n 0 L0 l _ refl refl (one_of_eight (n == 1) n 1 L1 l _ refl refl (one_of_eight (n == 2) n 2 L2 l _ refl refl
    (one_of_eight (n == 3) n 3 L3 l _ refl refl (one_of_eight (n == 4) n 4 L4 l _ refl refl (one_of_eight (n == 5) n 5 L5 l _ refl refl
    (one_of_eight (n == 6) n 6 L6 l _ refl refl (one_of_eight (n == 7) n 7 L7 l None refl refl (λ e. absurd (none-some l e)))))))))

-- a lock's place is below eight
pub place_low : (l : LockNumber) → place_of l < 8
place_low L0 = lit< tt
place_low L1 = lit< tt
place_low L2 = lit< tt
place_low L3 = lit< tt
place_low L4 = lit< tt
place_low L5 = lit< tt
place_low L6 = lit< tt
place_low L7 = lit< tt

-- two locks at one place are one
pub one_lock : (l m : LockNumber) → place_of l ≡ place_of m → l ≡ m
one_lock l m e = inside (sym (lock_at-place_of l) ∙ ap lock_at e ∙ lock_at-place_of m)
  where
    inside : {l m : LockNumber} → Some l ≡ Some m → l ≡ m
    inside h = cc

-- ---- held locks

-- two ways in which a lock is held are one where they are the same
one_access : (a b : Access) → same_access a b ≡ true → a ≡ b
one_access Exclusive Exclusive h = refl
one_access Exclusive Shared h = cc
one_access Shared Exclusive h = cc
one_access Shared Shared h = refl

access_itself : (a : Access) → same_access a a ≡ true
access_itself Exclusive = refl
access_itself Shared = refl

one_held : (h k : HeldLock) → same_held h k ≡ true → h ≡ k
one_held h k e =
    let parts = and_parts (same_lock h.lock k.lock) (same_access h.access k.access) e in
    ap (λ l. held l h.access) (one_lock h.lock k.lock (eqb-true (place_of h.lock) (place_of k.lock) parts.0))
    ∙ ap (λ a. held k.lock a) (one_access h.access k.access parts.1)

held_itself : (h : HeldLock) → same_held h h ≡ true
held_itself h = and_from _ _ (eq-eqb (place_of h.lock) (place_of h.lock) refl) (access_itself h.access)

-- ---- lists

one_list : (hs ks : List HeldLock) → same_locks hs ks ≡ true → hs ≡ ks
one_list [] [] e = refl
one_list [] (k ∷ ks) e = cc
one_list (h ∷ hs) [] e = cc
one_list (h ∷ hs) (k ∷ ks) e =
    let parts = and_parts (same_held h k) (same_locks hs ks) e in
    ap (λ x. x ∷ hs) (one_held h k parts.0) ∙ ap (λ xs. k ∷ xs) (one_list hs ks parts.1)

locks_themselves : (hs : List HeldLock) → same_locks hs hs ≡ true
locks_themselves [] = refl
locks_themselves (h ∷ hs) = and_from _ _ (held_itself h) (locks_themselves hs)

-- two lists are the same, as it is computed, exactly where they are one
pub same_locks_decides : (hs ks : List HeldLock) → Decides (same_locks hs ks) (hs ≡ ks)
same_locks_decides hs ks = (one_list hs ks, λ e. subst (λ xs. same_locks hs xs ≡ true) e (locks_themselves hs))

-- ---- eight at most

-- a lock isn't another where the other isn't it
pub turned : (l m : LockNumber) → same_lock l m ≡ false → same_lock m l ≡ false
turned l m h = ne_eqb (place_of m) (place_of l) (λ e. eqb-false (place_of l) (place_of m) h (sym e))

-- the places of the locks
places : List HeldLock → List ℕ
places [] = []
places (h ∷ hs) = place_of h.lock ∷ places hs

length_places : (hs : List HeldLock) → length (places hs) ≡ length hs
unfolding places
length_places [] = refl
length_places (h ∷ hs) = ap (λ n. suc n) (length_places hs)

others : (l : LockNumber) (hs : List HeldLock) → holds_lock l hs ≡ false → AllByRecursion (λ q. (place_of l == q) ≡ false) (places hs)
unfolding places
others l [] h = tt
others l (k ∷ hs) h = let parts = or_parts (same_lock l k.lock) (holds_lock l hs) h in (parts.0, others l hs parts.1)

distinct : (hs : List HeldLock) → are_locks hs ≡ true → IsDistinct (λ p q. p == q) (places hs)
unfolding places IsDistinct
distinct [] h = tt
distinct (k ∷ hs) h =
    let parts = and_parts (not (holds_lock k.lock hs)) (are_locks hs) h in
    (others k.lock hs (not-true _ parts.0), distinct hs parts.1)

below : (hs : List HeldLock) (q : ℕ) → list_any (λ p. q == p) (places hs) ≡ true → q < 8
unfolding places
below [] q found = cc
below (k ∷ hs) q found =
    one_of (q == place_of k.lock) (list_any (λ p. q == p) (places hs)) (q < 8) found
    (λ e. let at : q ≡ place_of k.lock = eqb-true q (place_of k.lock) e in let low : place_of k.lock < 8 = place_low k.lock in omega arith)
    (λ e. below hs q e)
  where
    one_of : (x y : Bool) (P : Type 0) → (x || y) ≡ true → (x ≡ true → P) → (y ≡ true → P) → P
    one_of true y P h f g = f refl
    one_of false y P h f g = g h

-- there are eight at most, since there are eight numbers
pub eight_at_most : (hs : List HeldLock) → are_locks hs ≡ true → length hs ≤ 8
eight_at_most hs h =
    let few = length-le_from_distinct_below (places hs) 8 (distinct hs h) (below hs) in
    let same : length (places hs) ≡ length hs = length_places hs in
    omega arith
