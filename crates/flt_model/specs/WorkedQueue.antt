-- Worked runs of a filter with a cancel-safe queue.
use Rattle.std.specs.Prelude.{◌≡◌, refl, List, [], ◌∷◌, ◌++◌, Some, None}
use Rattle.flt_rules.specs.declared.place.Operation.TheVariants.{Read, Write}
use Rattle.flt_rules.specs.declared.status.FinalStatus.TheVariants as final
use Rattle.flt_tree.specs.declared.filter.Callback.{Callback}
use Rattle.flt_tree.specs.declared.filter.FallibleCall.TheVariants as fallible
use Rattle.flt_tree.specs.declared.filter.Filter.{Filter}
use Rattle.flt_tree.specs.declared.filter.Head.TheVariants as head
use Rattle.flt_tree.specs.declared.filter.PlainCall.TheVariants as plain
use Rattle.flt_tree.specs.declared.filter.Status.TheVariants as status
use Rattle.flt_tree.specs.declared.filter.Test.TheVariants as test
use Rattle.flt_tree.specs.declared.variable.ContextVariable.TheVariants.{C0, Arg}
use Rattle.flt_tree.specs.declared.variable.OperationVariable.TheVariants.{Removed, Data}
use Rattle.flt_tree.specs.declared.variable.RemovedVariable.TheVariants.{O0}
use Rattle.flt_model.specs.declared.moves.JournalEntry.{JournalEntry}
use Rattle.flt_model.specs.declared.verdict.Verdict.TheVariants.{Legal, NotARun, Breaks}
use Rattle.flt_model.specs.declared.verdict.Violation.TheVariants.{V4}
use Rattle.flt_model.specs.Expansion.{verdict}
use Rattle.flt_model.specs.WorkedParts.{computed, broken_by, call, return, if_call, if_test, release_if}
use Rattle.flt_model.specs.WorkedParts.{on, filter, arrive, pre, lower, cancel, canceled, go}

-- pre read: an I/O request packet is pended in the queue
abbrev pub pends : Callback
pends = on (head.Pre Read)
    (if_test test.IsIrp (if_call (fallible.InsertIo None) (return status.Pending ∷ []) [] ∷ []) [] ∷ return status.NoCallback ∷ [])

-- canceled: the operation is completed as cancelled
abbrev pub cancels : Callback
cancels = on head.Canceled
    (release_if Arg ∷ call (plain.CompletePendedPreOperation Data (status.Complete final.Cancelled)) ∷ [])

-- pre write: the front entry is taken out of the queue, and its operation goes on
abbrev pub resumes : Callback
resumes = on (head.Pre Write)
    (if_call (fallible.RemoveNextIo O0 C0)
    (release_if C0 ∷ call (plain.CompletePendedPreOperation (Removed O0) status.NoCallback) ∷ []) []
    ∷ return status.NoCallback ∷ [])

-- an operation is pended and cancelled, and completed before the pre callback that pended it has returned
abbrev pub cancelled_early : List JournalEntry
cancelled_early =
    arrive Read ∷ pre 0 ∷ go 0 1 ∷ go 0 1 ∷ cancel 0 ∷ canceled 0 ∷ go 1 2 ∷ go 1 1 ∷ go 0 1 ∷ []

pub cancelled_early-legal : verdict (filter 100 (pends ∷ cancels ∷ []) ∷ []) cancelled_early ≡ Legal
unfolding computed
cancelled_early-legal = refl

-- ---- a removal and a cancellation race for one entry

abbrev pub racing : List Filter
racing = filter 100 (pends ∷ cancels ∷ resumes ∷ []) ∷ []

abbrev pub pended_and_cancelled : List JournalEntry
pended_and_cancelled = arrive Read ∷ pre 0 ∷ go 0 1 ∷ go 0 1 ∷ go 0 1 ∷ arrive Write ∷ pre 1 ∷ cancel 0 ∷ []

-- the removal takes the entry: no canceled callback can start
pub removed_first : verdict racing (pended_and_cancelled ++ go 1 1 ∷ canceled 0 ∷ []) ≡ NotARun 9
unfolding computed
removed_first = refl

-- the cancellation takes it: the removal finds none
pub cancelled_first : verdict racing (pended_and_cancelled ++ canceled 0 ∷ go 1 1 ∷ go 1 1 ∷ go 2 2 ∷ go 2 1 ∷ lower 1 ∷ []) ≡ Legal
unfolding computed
cancelled_first = refl

-- ---- a queued operation is passed on by the callback that queued it

abbrev pub forgets : List Filter
forgets = filter 100 (on (head.Pre Read) (if_call (fallible.InsertIo None) [] [] ∷ return status.NoCallback ∷ []) ∷ cancels ∷ []) ∷ []

abbrev pub passed_on_queued : List JournalEntry
passed_on_queued = arrive Read ∷ pre 0 ∷ go 0 1 ∷ go 0 1 ∷ []

-- it is settled, and its entry still owns it
pub passed_on_queued-breaks : verdict forgets passed_on_queued ≡ Breaks V4 3
unfolding computed
passed_on_queued-breaks = refl

-- after four transitions
pub passed_on_queued-moment : broken_by forgets passed_on_queued ≡ Some (record { moment = 4; violation = V4 })
unfolding computed
passed_on_queued-moment = refl
