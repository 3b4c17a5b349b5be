-- Locks of which the ways to a point disagree. This project's own definitions.
use Rattle.std.specs.Prelude.{Bool, false, not, ◌&&◌, ◌||◌, List, [], ◌∷◌, map, if◌then◌else◌, slice_index_or}
use Rattle.flt_rules.specs.Call.{place_of}
use Rattle.flt_rules.specs.Held.{holds_lock, same_locks}
use Rattle.flt_rules.specs.declared.call.LockNumber.{LockNumber}
use Rattle.flt_rules.specs.declared.call.LockNumber.TheVariants.{L0, L1, L2, L3, L4, L5, L6, L7}
use Rattle.flt_rules.specs.declared.held.HeldLock.{HeldLock}
use Rattle.flt_explain.specs.declared.locks.Locks.{Locks}

-- all locks, in the order in which they are told
abbrev pub all_locks : List LockNumber
all_locks = L0 ∷ L1 ∷ L2 ∷ L3 ∷ L4 ∷ L5 ∷ L6 ∷ L7 ∷ []

-- the set of the locks of which a test says yes
abbrev pub such_that : (LockNumber → Bool) → Locks
such_that test = record { flags = map test all_locks }

abbrev pub contains : Locks → LockNumber → Bool
contains s l = slice_index_or s.flags (place_of l) false

abbrev pub none : Locks
none = such_that (λ l. false)

abbrev pub has_any : List Bool → Bool
has_any [] = false
has_any (b ∷ bs) = b || has_any bs

abbrev pub is_empty : Locks → Bool
is_empty s = not (has_any s.flags)

-- the locks of both
abbrev pub union : Locks → Locks → Locks
union s t = such_that (λ l. contains s l || contains t l)

-- the locks of the first set that aren't in the second
abbrev pub without : Locks → Locks → Locks
without s t = such_that (λ l. contains s l && not (contains t l))

-- the locks of a list
abbrev pub locks_in : List HeldLock → Locks
locks_in hs = such_that (λ l. holds_lock l hs)

-- the locks that are in one list alone
abbrev pub in_one : List HeldLock → List HeldLock → Locks
in_one hs ks = union (without (locks_in hs) (locks_in ks)) (without (locks_in ks) (locks_in hs))

-- the locks by which two lists differ: those that are in one alone; all of them where both lists have the same locks, in another order or
-- held in another way; none where the lists are the same
unfoldable pub differing : List HeldLock → List HeldLock → Locks
differing hs ks =
    if same_locks hs ks then none else (if is_empty (in_one hs ks) then locks_in hs else in_one hs ks)
