-- Worked runs of push locks that are shared, and of what breaks the discipline there.
use Rattle.std.specs.Prelude.{◌≡◌, refl, true, false, List, [], ◌∷◌, ◌++◌, Some, None}
use Rattle.flt_rules.specs.Held.{held, without_last}
use Rattle.flt_rules.specs.declared.call.LockKind.TheVariants.{Push}
use Rattle.flt_rules.specs.declared.call.LockNumber.TheVariants.{L0, L1}
use Rattle.flt_rules.specs.declared.held.Access.{Access}
use Rattle.flt_rules.specs.declared.held.Access.TheVariants.{Exclusive, Shared}
use Rattle.flt_rules.specs.declared.place.Operation.TheVariants.{Read, Write}
use Rattle.flt_tree.specs.declared.filter.Filter.{Filter}
use Rattle.flt_tree.specs.declared.filter.Head.TheVariants as head
use Rattle.flt_tree.specs.declared.filter.PlainCall.TheVariants as plain
use Rattle.flt_tree.specs.declared.filter.Statement.{Statement}
use Rattle.flt_model.specs.declared.moves.JournalEntry.{JournalEntry}
use Rattle.flt_model.specs.declared.verdict.Verdict.TheVariants.{Legal, NotARun, Breaks}
use Rattle.flt_model.specs.declared.verdict.Violation.TheVariants.{V7}
use Rattle.flt_model.specs.Effects.{Step}
use Rattle.flt_model.specs.Expansion.{verdict}
use Rattle.flt_model.specs.Locks.{locks_exclude}
use Rattle.flt_model.specs.Runs.{start, keeps, broken}
use Rattle.flt_model.specs.World.{World, opening}
use Rattle.flt_model.specs.WorkedParts.{computed, locks_after, call, on, locking, lock, arrive, pre, go}
use Rattle.flt_model.specs.WorkedBreaks.{no_callback}

-- ---- callbacks that share a push lock, and some that take it for themselves

abbrev pub shares : Statement
shares = call (plain.AcquirePushLockShared L0)

abbrev pub takes : Statement
takes = call (plain.AcquireLock Push L0)

abbrev pub gives_up : Statement
gives_up = call (plain.ReleaseLock Push L0)

-- two push locks, with a callback for reads and one for writes
abbrev pub pushing : List Statement → List Statement → List Filter
pushing reads writes = locking (lock Push ∷ lock Push ∷ []) (on (head.Pre Read) reads ∷ on (head.Pre Write) writes ∷ []) ∷ []

-- reads share the lock, writes take it
abbrev pub readers : List Filter
readers = pushing (shares ∷ gives_up ∷ no_callback ∷ []) (takes ∷ gives_up ∷ no_callback ∷ [])

-- a read and another operation have come to their callbacks
abbrev pub both_reading : List JournalEntry
both_reading = arrive Read ∷ arrive Read ∷ pre 0 ∷ pre 1 ∷ []

abbrev pub one_writing : List JournalEntry
one_writing = arrive Read ∷ arrive Write ∷ pre 0 ∷ pre 1 ∷ []

-- ---- who waits for whom

-- two share the lock
pub shared_by_two : verdict readers (both_reading ++ go 0 1 ∷ go 1 1 ∷ go 0 1 ∷ go 1 1 ∷ []) ≡ Legal
unfolding computed
shared_by_two = refl

-- which of them an activation holds, and how
pub shared_locks : locks_after readers (one_writing ++ go 0 1 ∷ go 0 1 ∷ go 1 1 ∷ []) ≡ Some ([] ∷ (held L0 Exclusive ∷ []) ∷ [])
unfolding computed
shared_locks = refl

-- an exclusive lock waits for those that share it
pub waits_for_shared : verdict readers (one_writing ++ go 0 1 ∷ go 1 1 ∷ []) ≡ NotARun 5
unfolding computed
waits_for_shared = refl

-- for all of them
pub waits_for_both :
    verdict readers (arrive Read ∷ arrive Read ∷ arrive Write ∷ pre 0 ∷ pre 1 ∷ pre 2 ∷ go 0 1 ∷ go 1 1 ∷ go 0 1 ∷ go 2 1 ∷ []) ≡ NotARun 9
unfolding computed
waits_for_both = refl

-- and it is taken when the last has released it
pub taken_after_shared : verdict readers (both_reading ++ arrive Write ∷ pre 2 ∷ go 0 1 ∷ go 1 1 ∷ go 0 1 ∷ go 1 1 ∷ go 2 1 ∷ []) ≡ Legal
unfolding computed
taken_after_shared = refl

-- a shared lock waits for the one that has it alone
pub waits_for_exclusive : verdict readers (one_writing ++ go 1 1 ∷ go 0 1 ∷ []) ≡ NotARun 5
unfolding computed
waits_for_exclusive = refl

-- ---- V7: taken twice, in either way; kept at the end

pub shares_twice : verdict (pushing (shares ∷ shares ∷ []) []) (arrive Read ∷ pre 0 ∷ go 0 1 ∷ go 0 1 ∷ []) ≡ Breaks V7 3
unfolding computed
shares_twice = refl

pub shares_and_takes : verdict (pushing (shares ∷ takes ∷ []) []) (arrive Read ∷ pre 0 ∷ go 0 1 ∷ go 0 1 ∷ []) ≡ Breaks V7 3
unfolding computed
shares_and_takes = refl

pub takes_and_shares : verdict (pushing (takes ∷ shares ∷ []) []) (arrive Read ∷ pre 0 ∷ go 0 1 ∷ go 0 1 ∷ []) ≡ Breaks V7 3
unfolding computed
takes_and_shares = refl

-- the lock is held as it was taken first
pub shared_stays : locks_after (pushing (shares ∷ takes ∷ []) []) (arrive Read ∷ pre 0 ∷ go 0 1 ∷ go 0 1 ∷ []) ≡ Some
    ((held L0 Shared ∷ []) ∷ [])
unfolding computed
shared_stays = refl

pub keeps_shared : verdict (pushing (shares ∷ no_callback ∷ []) []) (arrive Read ∷ pre 0 ∷ go 0 1 ∷ go 0 1 ∷ []) ≡ Breaks V7 3
unfolding computed
keeps_shared = refl

-- kept at the end it is held for ever: nobody has it alone any more, but others share it
abbrev pub kept : List Filter
kept = pushing (shares ∷ no_callback ∷ []) (takes ∷ no_callback ∷ [])

pub kept_for_ever : locks_after kept (arrive Read ∷ pre 0 ∷ go 0 1 ∷ go 0 1 ∷ arrive Write ∷ pre 1 ∷ go 1 1 ∷ []) ≡ None
unfolding computed
kept_for_ever = refl

pub kept_is_shared :
    locks_after kept (arrive Read ∷ pre 0 ∷ go 0 1 ∷ go 0 1 ∷ arrive Read ∷ pre 1 ∷ go 1 1 ∷ [])
    ≡ Some ((held L0 Shared ∷ []) ∷ (held L0 Shared ∷ []) ∷ [])
unfolding computed
kept_is_shared = refl

-- ---- a release takes the last entry of the lock, of either kind

pub last_goes :
    without_last L0 (held L0 Exclusive ∷ held L1 Exclusive ∷ held L0 Shared ∷ []) ≡ held L0 Exclusive ∷ held L1 Exclusive ∷ []
last_goes = refl

pub last_goes-exclusive :
    without_last L0 (held L0 Shared ∷ held L0 Exclusive ∷ held L1 Shared ∷ []) ≡ held L0 Shared ∷ held L1 Shared ∷ []
last_goes-exclusive = refl

pub other_stays : without_last L0 (held L1 Shared ∷ []) ≡ held L1 Shared ∷ []
other_stays = refl

-- ---- worlds that no run leads to: two activations hold a lock, each in its way

abbrev pub held_by : Access → Access → World
held_by first second =
    let w = opening readers in
    record w {
      store = record w.store {
        holders = ((record { activation = 0; access = first } ∷ record { activation = 1; access = second } ∷ []) ∷ []) ∷ [];
      };
    }

-- a step leads there, and nothing happens
abbrev pub leads_to : World → Step
leads_to w = record { world = w; events = [] }

pub exclusive_beside_shared : keeps readers (start readers) (leads_to (held_by Exclusive Shared)) V7 ≡ false
exclusive_beside_shared = refl

pub shared_beside_exclusive : keeps readers (start readers) (leads_to (held_by Shared Exclusive)) V7 ≡ false
shared_beside_exclusive = refl

pub two_exclusive : keeps readers (start readers) (leads_to (held_by Exclusive Exclusive)) V7 ≡ false
two_exclusive = refl

pub two_shared : keeps readers (start readers) (leads_to (held_by Shared Shared)) V7 ≡ true
two_shared = refl

-- it is the first thing that breaks
pub exclusive_beside_shared-breaks : broken readers (start readers) (leads_to (held_by Exclusive Shared)) ≡ Some V7
exclusive_beside_shared-breaks = refl

pub two_shared-breaks : broken readers (start readers) (leads_to (held_by Shared Shared)) ≡ None
two_shared-breaks = refl

-- one that holds a lock twice, in both ways, is alone
abbrev pub held_twice : World
held_twice =
    let w = opening readers in
    record w {
      store = record w.store {
        holders = ((record { activation = 0; access = Exclusive } ∷ record { activation = 0; access = Shared } ∷ []) ∷ []) ∷ [];
      };
    }

pub alone : locks_exclude held_twice ≡ true
alone = refl
