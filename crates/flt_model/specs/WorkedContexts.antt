-- Worked runs over contexts of streams and of the instance.
use Rattle.std.specs.Prelude.{◌≡◌, refl, List, [], ◌∷◌, ◌++◌, Some, None}
use Rattle.flt_rules.specs.declared.call.Anchor.TheVariants.{Stream, Instance}
use Rattle.flt_rules.specs.declared.call.Existing.TheVariants.{Keep}
use Rattle.flt_rules.specs.declared.place.Operation.TheVariants.{Read, Write, Cleanup}
use Rattle.flt_tree.specs.declared.filter.Action.TheVariants as action
use Rattle.flt_tree.specs.declared.filter.Callback.{Callback}
use Rattle.flt_tree.specs.declared.filter.FallibleCall.TheVariants as fallible
use Rattle.flt_tree.specs.declared.filter.Filter.{Filter}
use Rattle.flt_tree.specs.declared.filter.Head.TheVariants as head
use Rattle.flt_tree.specs.declared.filter.PlainCall.TheVariants as plain
use Rattle.flt_tree.specs.declared.filter.Statement.TheVariants as tree
use Rattle.flt_tree.specs.declared.filter.Status.TheVariants as status
use Rattle.flt_tree.specs.declared.variable.ContextVariable.TheVariants.{C0, C1}
use Rattle.flt_tree.specs.declared.variable.NumberVariable.TheVariants.{N0}
use Rattle.flt_model.specs.declared.moves.JournalEntry.{JournalEntry}
use Rattle.flt_model.specs.declared.moves.JournalEntry.TheVariants.{Move}
use Rattle.flt_model.specs.declared.moves.Key.TheVariants as key
use Rattle.flt_model.specs.declared.moves.Move.TheVariants as move
use Rattle.flt_model.specs.declared.verdict.Verdict.TheVariants.{Legal, NotARun, Breaks}
use Rattle.flt_model.specs.declared.verdict.Violation.TheVariants.{V1}
use Rattle.flt_model.specs.Expansion.{verdict}
use Rattle.flt_model.specs.WorkedParts.{computed, here, references_after, broken_by, call, return, if_call}
use Rattle.flt_model.specs.WorkedParts.{release_if, on, filter, cleans_up, arrive, pre, lower, canceled, go}
use Rattle.flt_model.specs.WorkedQueue.{pends, cancels}

-- ---- two reads race to set the stream's context

-- the stream's context is looked up, or else made and set; who comes second takes the first one's
abbrev pub finds_or_sets : Callback
finds_or_sets = on (head.Pre Read)
    (if_call (fallible.GetContext Stream C0) []
    (if_call (fallible.AllocateContext C0)
    (if_call (fallible.SetContext Stream Keep C0 (Some C1)) [] [] ∷ release_if C1 ∷ []) [] ∷ [])
    ∷ release_if C0 ∷ return status.NoCallback ∷ [])

abbrev pub shares : List Filter
shares = filter 100 (finds_or_sets ∷ []) ∷ []

abbrev pub both_set : List JournalEntry
both_set =
    arrive Read ∷ arrive Read ∷ pre 0 ∷ pre 1 ∷ go 0 1 ∷ go 1 1 ∷ go 0 1 ∷ go 1 1 ∷ go 0 1 ∷ go 1 1 ∷ go 0 3 ∷ go 1 2 ∷ go 1 2
    ∷ go 0 1 ∷ go 1 1 ∷ lower 0 ∷ lower 1 ∷ []

pub both_set-legal : verdict shares both_set ≡ Legal
unfolding computed
both_set-legal = refl

-- the link has the only reference of the first context, and the second one was freed
pub both_set-references : references_after shares both_set ≡ Some (1 ∷ 0 ∷ [])
unfolding computed
both_set-references = refl

-- ---- a filter is detached while an operation is pended and another carries a completion context

abbrev pub marks : Callback
marks = on (head.Pre Write)
    (if_call (fallible.AllocateContext C0)
    (if_call (fallible.SetContext Stream Keep C0 None) [] [] ∷ return (status.WithCallback (Some C0)) ∷ []) []
    ∷ return status.NoCallback ∷ [])

abbrev pub detaches : List Filter
detaches = filter 100 (pends ∷ cancels ∷ marks ∷ cleans_up Write ∷ []) ∷ []

abbrev pub drained : List JournalEntry
drained =
    arrive Read ∷ pre 0 ∷ go 0 1 ∷ go 0 1 ∷ go 0 1 ∷ arrive Write ∷ pre 1 ∷ go 1 1 ∷ go 1 1 ∷ go 1 1 ∷ Move (move.Detach 100)
    ∷ Move (move.Drain 100 1) ∷ go 2 2 ∷ go 2 1 ∷ canceled 0 ∷ go 3 2 ∷ go 3 1 ∷ []

abbrev pub unlinks : JournalEntry
unlinks = Move (move.Unlink 100 (key.Stream 0))

abbrev pub is_gone : JournalEntry
is_gone = Move (move.Detached 100)

pub torn_down : verdict detaches (drained ++ unlinks ∷ is_gone ∷ lower 1 ∷ []) ≡ Legal
unfolding computed
torn_down = refl

-- the context of the stream is still linked
pub torn_down_early : verdict detaches (drained ++ is_gone ∷ unlinks ∷ lower 1 ∷ []) ≡ NotARun 17
unfolding computed
torn_down_early = refl

-- ---- a context is read after its last reference was dropped

abbrev pub reads_late : Callback
reads_late = on (head.Pre Read)
    (if_call (fallible.GetContext Instance C0) (call (plain.ReleaseContext C0) ∷ tree.Act here (action.ReadValue N0 C0) ∷ []) []
    ∷ return status.NoCallback ∷ [])

abbrev pub sets : Callback
sets = on (head.Pre Write)
    (if_call (fallible.AllocateContext C0)
    (if_call (fallible.SetContext Instance Keep C0 None) [] [] ∷ call (plain.ReleaseContext C0) ∷ []) []
    ∷ return status.NoCallback ∷ [])

abbrev pub deletes : Callback
deletes = on (head.Pre Cleanup) (if_call (fallible.DeleteContextOf Instance None) [] [] ∷ return status.NoCallback ∷ [])

abbrev pub careless : List Filter
careless = filter 100 (reads_late ∷ sets ∷ deletes ∷ []) ∷ []

abbrev pub read_late : List JournalEntry
read_late =
    arrive Write ∷ pre 0 ∷ go 0 1 ∷ go 0 1 ∷ go 0 1 ∷ go 0 1 ∷ arrive Read ∷ pre 1 ∷ go 1 1 ∷ go 1 1 ∷ arrive Cleanup ∷ pre 2 ∷ go 2 1
    ∷ go 1 1 ∷ []

pub read_late-breaks : verdict careless read_late ≡ Breaks V1 13
unfolding computed
read_late-breaks = refl

pub read_late-moment : broken_by careless read_late ≡ Some (record { moment = 14; violation = V1 })
unfolding computed
read_late-moment = refl
