-- Worked runs of the calls that the others don't make: replaced, deleted and referenced contexts, values, work items, deferred
-- post processing, fast I/O, and a disabled queue.
use Rattle.std.specs.Prelude.{◌≡◌, refl, false, List, [], ◌∷◌, ◌++◌, Some, None}
use Rattle.flt_rules.specs.declared.call.Anchor.TheVariants.{Instance}
use Rattle.flt_rules.specs.declared.call.Existing.TheVariants.{Replace}
use Rattle.flt_rules.specs.declared.place.Mode.TheVariants.{Fast}
use Rattle.flt_rules.specs.declared.place.Operation.TheVariants.{Create, Read, Write, Cleanup}
use Rattle.flt_tree.specs.declared.filter.Action.TheVariants as action
use Rattle.flt_tree.specs.declared.filter.Callback.{Callback}
use Rattle.flt_tree.specs.declared.filter.FallibleCall.TheVariants as fallible
use Rattle.flt_tree.specs.declared.filter.Filter.{Filter}
use Rattle.flt_tree.specs.declared.filter.Head.TheVariants as head
use Rattle.flt_tree.specs.declared.filter.PlainCall.TheVariants as plain
use Rattle.flt_tree.specs.declared.filter.Statement.{Statement}
use Rattle.flt_tree.specs.declared.filter.Statement.TheVariants as tree
use Rattle.flt_tree.specs.declared.filter.Status.TheVariants as status
use Rattle.flt_tree.specs.declared.filter.Test.TheVariants as test
use Rattle.flt_tree.specs.declared.variable.Atom.TheVariants as atom
use Rattle.flt_tree.specs.declared.variable.ContextVariable.TheVariants.{C0, C1, Arg}
use Rattle.flt_tree.specs.declared.variable.Expression.TheVariants as expression
use Rattle.flt_tree.specs.declared.variable.NumberVariable.TheVariants.{N0, N1}
use Rattle.flt_tree.specs.declared.variable.OperationVariable.TheVariants.{Removed}
use Rattle.flt_tree.specs.declared.variable.RemovedVariable.TheVariants.{O0}
use Rattle.flt_model.specs.declared.moves.JournalEntry.{JournalEntry}
use Rattle.flt_model.specs.declared.moves.JournalEntry.TheVariants.{Move, Go}
use Rattle.flt_model.specs.declared.moves.Move.TheVariants as move
use Rattle.flt_model.specs.declared.verdict.Verdict.TheVariants.{Legal, NotARun}
use Rattle.flt_model.specs.Expansion.{verdict}
use Rattle.flt_model.specs.World.{Disallowed}
use Rattle.flt_model.specs.WorkedParts.{computed, here, references_after, outcomes_after, call, return, if_call, if_test, release_if}
use Rattle.flt_model.specs.WorkedParts.{on, filter, routine, passes, arrive, pre, lower, post, cancel, canceled, go}
use Rattle.flt_model.specs.WorkedQueue.{cancels}

abbrev pub no_callback : Statement
no_callback = return status.NoCallback

-- ---- replacing, deleting and referencing

-- the instance's context is replaced, and the one that was there released
abbrev pub replaces : Callback
replaces = on (head.Pre Read)
    (if_call (fallible.AllocateContext C0)
    (if_call (fallible.SetContext Instance Replace C0 (Some C1)) [] [] ∷ release_if C1 ∷ call (plain.ReleaseContext C0) ∷ []) []
    ∷ no_callback ∷ [])

-- it is looked up, referenced again, and unlinked
abbrev pub unlinks : Callback
unlinks = on (head.Pre Write)
    (if_call (fallible.GetContext Instance C0)
    (call (plain.ReferenceContext C0 C1) ∷ call (plain.DeleteContext C0) ∷ call (plain.ReleaseContext C0)
    ∷ call (plain.ReleaseContext C1) ∷ []) []
    ∷ no_callback ∷ [])

-- it is taken from its place, with the reference of the link
abbrev pub takes_away : Callback
takes_away = on (head.Pre Cleanup)
    (if_call (fallible.DeleteContextOf Instance (Some C0)) (call (plain.ReleaseContext C0) ∷ []) [] ∷ no_callback ∷ [])

abbrev pub contexts : List Filter
contexts = filter 100 (replaces ∷ unlinks ∷ takes_away ∷ []) ∷ []

abbrev pub replaced : List JournalEntry
replaced =
    arrive Read ∷ pre 0 ∷ go 0 1 ∷ go 0 1 ∷ go 0 2 ∷ go 0 1 ∷ arrive Read ∷ pre 1 ∷ go 1 1 ∷ go 1 1 ∷ go 1 2 ∷ go 1 1 ∷ go 1 1 ∷ []

abbrev pub deleted : List JournalEntry
deleted = arrive Write ∷ pre 2 ∷ go 2 1 ∷ go 2 1 ∷ go 2 1 ∷ go 2 1 ∷ go 2 1 ∷ go 2 1 ∷ []

abbrev pub taken_away : List JournalEntry
taken_away = arrive Cleanup ∷ pre 2 ∷ go 2 1 ∷ go 2 1 ∷ go 2 1 ∷ []

pub replaced-legal : verdict contexts replaced ≡ Legal
unfolding computed
replaced-legal = refl

pub replaced-references : references_after contexts replaced ≡ Some (0 ∷ 1 ∷ [])
unfolding computed
replaced-references = refl

pub deleted-legal : verdict contexts (replaced ++ deleted) ≡ Legal
unfolding computed
deleted-legal = refl

pub deleted-references : references_after contexts (replaced ++ deleted) ≡ Some (0 ∷ 0 ∷ [])
unfolding computed
deleted-references = refl

pub taken_away-legal : verdict contexts (replaced ++ taken_away) ≡ Legal
unfolding computed
taken_away-legal = refl

pub taken_away-references : references_after contexts (replaced ++ taken_away) ≡ Some (0 ∷ 0 ∷ [])
unfolding computed
taken_away-references = refl

-- where nothing is linked the calls fail
pub nothing_linked : verdict contexts (arrive Write ∷ pre 0 ∷ go 0 1 ∷ go 0 1 ∷ arrive Cleanup ∷ pre 1 ∷ go 1 1 ∷ go 1 1 ∷ []) ≡ Legal
unfolding computed
nothing_linked = refl

-- ---- values, and numbers that wrap

-- a value is written, read, and counted down in turns; 0 - 1 + 1 is 0
abbrev pub counts : List Filter
counts = filter 100 (on (head.Pre Read)
    (if_call (fallible.AllocateContext C0)
    (tree.Act here (action.SetNumber N0 (expression.Difference (atom.Number 0) (atom.Number 1)))
    ∷ tree.Act here (action.SetNumber N0 (expression.Sum (atom.Variable N0) (atom.Number 1)))
    ∷ if_test (test.Equal N0 (atom.Number 0)) (tree.Act here (action.WriteValue C0 (atom.Number 3)) ∷ []) []
    ∷ tree.Act here (action.ReadValue N1 C0)
    ∷ tree.Repeat here 2 (tree.Act here (action.SetNumber N1 (expression.Difference (atom.Variable N1) (atom.Number 1))) ∷ [])
    ∷ if_test (test.Less N1 (atom.Number 2)) (call (plain.ReleaseContext C0) ∷ []) [] ∷ []) []
    ∷ no_callback ∷ []) ∷ []) ∷ []

pub counts-legal : verdict counts (arrive Read ∷ pre 0 ∷ go 0 1 ∷ go 0 4 ∷ go 0 1 ∷ go 0 7 ∷ go 0 1 ∷ lower 0 ∷ []) ≡ Legal
unfolding computed
counts-legal = refl

-- ---- work items

-- a generic work item takes a context over, and releases it
abbrev pub works : List Filter
works = filter 100
    (on (head.Pre Read)
    (if_call (fallible.AllocateContext C0)
    (if_call (fallible.QueueGenericWorkItem (routine 103) (Some C0)) [] (call (plain.ReleaseContext C0) ∷ []) ∷ []) []
    ∷ no_callback ∷ [])
    ∷ on (head.Generic (103 ∷ [])) (release_if Arg ∷ []) ∷ []) ∷ []

pub works-granted : verdict works (arrive Read ∷ pre 0 ∷ go 0 1 ∷ go 0 1 ∷ go 0 1 ∷ lower 0 ∷ Move (move.Work 0) ∷ go 1 2 ∷ go 1 1
    ∷ []) ≡ Legal
unfolding computed
works-granted = refl

pub works-refused : verdict works (arrive Read ∷ pre 0 ∷ go 0 1 ∷ Go 0 1 false ∷ go 0 1 ∷ go 0 1 ∷ lower 0 ∷ Move (move.Work 0)
    ∷ []) ≡ NotARun 7
unfolding computed
works-refused = refl

-- an item starts once
pub works-once : verdict works (arrive Read ∷ pre 0 ∷ go 0 1 ∷ go 0 1 ∷ Move (move.Work 0) ∷ Move (move.Work 0) ∷ []) ≡ NotARun 5
unfolding computed
works-once = refl

-- a post callback leaves the completion to a work item
abbrev pub finishes_later : List Filter
finishes_later = filter 100
    (passes Read
    ∷ on (head.Post Read)
    (if_call (fallible.QueueDeferredIoWorkItem (routine 114) None) (return status.MoreProcessingRequired ∷ []) []
    ∷ return status.FinishedProcessing ∷ [])
    ∷ on (head.DeferredPost (114 ∷ [])) (call plain.CompletePendedPostOperation ∷ []) ∷ []) ∷ []

abbrev pub finished_later : List JournalEntry
finished_later = arrive Read ∷ pre 0 ∷ go 0 1 ∷ lower 0 ∷ post 0 ∷ go 1 1 ∷ go 1 1 ∷ Move (move.Work 0) ∷ []

pub finished_later-legal : verdict finishes_later (finished_later ++ go 2 1 ∷ go 2 1 ∷ []) ≡ Legal
unfolding computed
finished_later-legal = refl

-- until then the operation can be cancelled, and then no more
pub finished_later-open : verdict finishes_later (finished_later ++ cancel 0 ∷ cancel 0 ∷ []) ≡ NotARun 9
unfolding computed
finished_later-open = refl

pub finished_later-done : verdict finishes_later (finished_later ++ go 2 1 ∷ cancel 0 ∷ []) ≡ NotARun 9
unfolding computed
finished_later-done = refl

-- ---- fast I/O is disallowed, and is over

abbrev pub disallows : List Filter
disallows = filter 100
    (on (head.Pre Read) (if_test test.IsIrp (no_callback ∷ []) [] ∷ return status.DisallowFastIo ∷ []) ∷ []) ∷ []

abbrev pub disallowed : List JournalEntry
disallowed = Move (move.Arrive Read Fast 0) ∷ pre 0 ∷ go 0 1 ∷ go 0 1 ∷ []

pub disallowed-legal : verdict disallows disallowed ≡ Legal
unfolding computed
disallowed-legal = refl

pub disallowed-outcome : outcomes_after disallows disallowed ≡ Some (Some Disallowed ∷ [])
unfolding computed
disallowed-outcome = refl

-- a create doesn't come as fast I/O, and there are 1,024 files
pub fast_create : verdict disallows (Move (move.Arrive Create Fast 0) ∷ []) ≡ NotARun 0
unfolding computed
fast_create = refl

pub no_such_file : verdict disallows (arrive Create ∷ Move (move.Skip 0) ∷ Move (move.Arrive Read Fast 1024) ∷ []) ≡ NotARun 2
unfolding computed
no_such_file = refl

-- ---- entries are taken in their order; the queue of a filter that is being detached takes none

-- pre read: the operation is pended with a context; pre write: the front one is resumed
abbrev pub keeps_order : List Filter
keeps_order = filter 100
    (on (head.Pre Read)
    (if_call (fallible.AllocateContext C0)
    (if_call (fallible.InsertIo (Some C0)) (return status.Pending ∷ []) (call (plain.ReleaseContext C0) ∷ []) ∷ []) []
    ∷ no_callback ∷ [])
    ∷ on (head.Pre Write)
    (if_call (fallible.RemoveNextIo O0 C0)
    (release_if C0 ∷ call (plain.CompletePendedPreOperation (Removed O0) status.NoCallback) ∷ []) []
    ∷ no_callback ∷ [])
    ∷ cancels ∷ []) ∷ []

abbrev pub two_pended : List JournalEntry
two_pended = arrive Read ∷ pre 0 ∷ go 0 1 ∷ go 0 1 ∷ go 0 1 ∷ arrive Read ∷ pre 1 ∷ go 1 1 ∷ go 1 1 ∷ go 1 1 ∷ arrive Write ∷ pre 2 ∷ []

-- the first one goes on
pub first_in_first_out : verdict keeps_order (two_pended ++ go 2 1 ∷ go 2 2 ∷ go 2 1 ∷ go 2 1 ∷ lower 0 ∷ []) ≡ Legal
unfolding computed
first_in_first_out = refl

pub second_stays : verdict keeps_order (two_pended ++ go 2 1 ∷ go 2 2 ∷ go 2 1 ∷ go 2 1 ∷ lower 1 ∷ []) ≡ NotARun 16
unfolding computed
second_stays = refl

-- the second one is cancelled out of turn
pub second_cancelled :
    verdict keeps_order (two_pended ++ cancel 1 ∷ canceled 1 ∷ go 3 2 ∷ go 3 1 ∷ go 3 1 ∷ go 2 1 ∷ go 2 2 ∷ go 2 1 ∷ go 2 1
    ∷ lower 0 ∷ []) ≡ Legal
unfolding computed
second_cancelled = refl

-- it isn't cancelled
pub not_cancelled : verdict keeps_order (two_pended ++ canceled 1 ∷ []) ≡ NotARun 12
unfolding computed
not_cancelled = refl

abbrev pub detach : JournalEntry
detach = Move (move.Detach 100)

pub disabled : verdict keeps_order (arrive Read ∷ pre 0 ∷ go 0 1 ∷ detach ∷ go 0 1 ∷ go 0 1 ∷ go 0 1 ∷ Move (move.Detached 100)
    ∷ lower 0 ∷ []) ≡ Legal
unfolding computed
disabled = refl

-- an operation passes a filter that is being detached, or is gone; it is detached once
pub passed_by : verdict keeps_order (arrive Read ∷ detach ∷ Move (move.Skip 0) ∷ lower 0 ∷ Move (move.Detached 100) ∷ detach ∷ [])
    ≡ NotARun 5
unfolding computed
passed_by = refl

-- a frame is drained: the post callback sees the flag
abbrev pub drains : List Filter
drains = filter 100
    (on (head.Pre Read) (if_call (fallible.AllocateContext C0) (return (status.Synchronize (Some C0)) ∷ []) [] ∷ no_callback ∷ [])
    ∷ on (head.Post Read)
    (if_test test.IsDraining (release_if Arg ∷ return status.FinishedProcessing ∷ []) (return status.MoreProcessingRequired ∷ [])
    ∷ []) ∷ []) ∷ []

abbrev pub framed : List JournalEntry
framed = arrive Read ∷ pre 0 ∷ go 0 1 ∷ go 0 1 ∷ []

pub drained : verdict drains (framed ++ detach ∷ Move (move.Drain 100 0) ∷ go 1 3 ∷ go 1 1 ∷ lower 0 ∷ post 0 ∷ []) ≡ NotARun 9
unfolding computed
drained = refl

pub drains_detaching : verdict drains (framed ++ Move (move.Drain 100 0) ∷ []) ≡ NotARun 4
unfolding computed
drains_detaching = refl
