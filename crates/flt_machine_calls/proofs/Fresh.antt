-- Locks that are added to a list which doesn't hold them.
use Rattle.std.proofs.Common.{◌≡◌, ◌≤◌, Bool, true, false, if◌then◌else◌, not, ◌&&◌, List, [], ◌∷◌, ◌++◌, length, get_or, arith, ap, subst}
use Rattle.std.proofs.lemmas.List.{append_cancel_left, length-append}
use Rattle.flt_rules.specs.Held.{held, holds_lock, same_lock, without_last}
use Rattle.flt_rules.specs.declared.call.LockNumber.{LockNumber}
use Rattle.flt_rules.specs.declared.held.Access.{Access}
use Rattle.flt_rules.specs.declared.held.HeldLock.{HeldLock}

-- where the later list has one entry more, its lock wasn't held
abbrev pub AddsFresh : List HeldLock → List HeldLock → Type 0
AddsFresh locks later = (l : LockNumber) (access : Access) → later ≡ locks ++ held l access ∷ [] → holds_lock l locks ≡ false

no_longer_fresh : (locks later : List HeldLock) → length later ≤ length locks → AddsFresh locks later
no_longer_fresh locks later h l access is = absurd (omega (arith, h, ap length is, length-append locks (held l access ∷ [])))

-- locks that stay add none that is held already
pub same_fresh : (locks : List HeldLock) → AddsFresh locks locks
same_fresh locks = no_longer_fresh locks locks (omega arith)

shorter : (l : LockNumber) (locks : List HeldLock) → length (without_last l locks) ≤ length locks
shorter l [] = omega arith
shorter l (h ∷ locks) = by_first (same_lock l h.lock && not (holds_lock l locks)) (shorter l locks)
  where
    by_first : (b : Bool) → length (without_last l locks) ≤ length locks →
        length (if b then locks else h ∷ without_last l locks) ≤ length (h ∷ locks)
    by_first true rest = omega arith
    by_first false rest = omega (arith, rest)

-- a list with one lock less adds none that is held already
pub fewer_fresh : (l : LockNumber) (locks : List HeldLock) → AddsFresh locks (without_last l locks)
fewer_fresh l locks = no_longer_fresh locks (without_last l locks) (shorter l locks)

-- a lock that isn't held is added as a fresh one
pub one_fresh : (l : LockNumber) (access : Access) (locks : List HeldLock) →
    holds_lock l locks ≡ false → AddsFresh locks (locks ++ held l access ∷ [])
one_fresh l access locks free m way is = subst (λ (x : LockNumber). holds_lock x locks ≡ false) same free
  where
    same : l ≡ m
    same = ap (λ (hs : List HeldLock). (get_or hs 0 (held l access)).lock)
        (append_cancel_left locks (held l access ∷ []) (held m way ∷ []) is)
