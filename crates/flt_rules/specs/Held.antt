-- The locks that a callback holds, the oldest first. Source: the driver kit's pages on spin locks, fast mutexes and push locks;
-- that they are released in reverse order is this project's own rule.
use Rattle.std.specs.Prelude.{Bool, true, false, not, ◌&&◌, ◌==◌, if◌then◌else◌, List, [], ◌∷◌, Option}
use Rattle.std.specs.List.{list_any}
use Rattle.flt_rules.specs.Call.{place_of}
use Rattle.flt_rules.specs.Place.{raised_by, greater_level}
use Rattle.flt_rules.specs.declared.call.LockKind.{LockKind}
use Rattle.flt_rules.specs.declared.call.LockNumber.{LockNumber}
use Rattle.flt_rules.specs.declared.held.Access.{Access}
use Rattle.flt_rules.specs.declared.held.Access.TheVariants.{Exclusive, Shared}
use Rattle.flt_rules.specs.declared.held.HeldLock.{HeldLock}
use Rattle.flt_rules.specs.declared.place.Level.{Level}

-- ---- one lock

-- a lock that is held so
abbrev pub held : LockNumber → Access → HeldLock
held l access = record { lock = l; access = access }

-- whether two numbers are one lock
abbrev pub same_lock : LockNumber → LockNumber → Bool
same_lock l m = place_of l == place_of m

-- whether two are held in one way
abbrev pub same_access : Access → Access → Bool
same_access Exclusive Exclusive = true
same_access Shared Shared = true
same_access _ _ = false

-- whether both are one lock, held in one way
abbrev pub same_held : HeldLock → HeldLock → Bool
same_held h k = same_lock h.lock k.lock && same_access h.access k.access

-- whether two activations may hold one lock so at the same time. Source: FltAcquirePushLockShared, FltAcquirePushLockExclusive
abbrev pub are_compatible : Access → Access → Bool
are_compatible Shared Shared = true
are_compatible _ _ = false

-- ---- lists

-- whether the lock is in the list, in either way
abbrev pub holds_lock : LockNumber → List HeldLock → Bool
holds_lock l = list_any (λ (h : HeldLock). same_lock l h.lock)

-- whether it is the latest taken
abbrev pub is_latest : LockNumber → List HeldLock → Bool
is_latest l [] = false
is_latest l (h ∷ []) = same_lock l h.lock
is_latest l (h ∷ k ∷ locks) = is_latest l (k ∷ locks)

-- the list without its last entry of the lock, of either kind
abbrev pub without_last : LockNumber → List HeldLock → List HeldLock
without_last l [] = []
without_last l (h ∷ locks) = if same_lock l h.lock && not (holds_lock l locks) then locks else h ∷ without_last l locks

-- whether two lists have the same locks in the same order, each held in the same way
abbrev pub same_locks : List HeldLock → List HeldLock → Bool
same_locks [] [] = true
same_locks [] (k ∷ ks) = false
same_locks (h ∷ hs) [] = false
same_locks (h ∷ hs) (k ∷ ks) = same_held h k && same_locks hs ks

-- ---- levels

-- the greatest of a level and those that held locks raise to, where each lock is of the kind that is declared for its number.
-- How a lock is held makes no difference
abbrev pub level_with : (LockNumber → Option LockKind) → Level → List HeldLock → Level
level_with kind_of level [] = level
level_with kind_of level (h ∷ locks) = level_with kind_of (greater_level level (raised_by (kind_of h.lock))) locks
