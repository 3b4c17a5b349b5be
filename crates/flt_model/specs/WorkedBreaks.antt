-- The shortest runs that break each rule, and some that aren't runs.
use Rattle.std.specs.Prelude.{◌≡◌, refl, false, List, [], ◌∷◌, None}
use Rattle.flt_rules.specs.declared.call.Anchor.TheVariants.{Stream, Instance}
use Rattle.flt_rules.specs.declared.call.LockKind.TheVariants.{Spin}
use Rattle.flt_rules.specs.declared.call.LockNumber.TheVariants.{L0, L1}
use Rattle.flt_rules.specs.declared.place.Mode.TheVariants.{Fast as FastIo}
use Rattle.flt_rules.specs.declared.place.Operation.TheVariants.{Create, Read}
use Rattle.flt_tree.specs.declared.filter.FallibleCall.TheVariants as fallible
use Rattle.flt_tree.specs.declared.filter.Filter.{Filter}
use Rattle.flt_tree.specs.declared.filter.Head.TheVariants as head
use Rattle.flt_tree.specs.declared.filter.PlainCall.TheVariants as plain
use Rattle.flt_tree.specs.declared.filter.Statement.{Statement}
use Rattle.flt_tree.specs.declared.filter.Status.TheVariants as status
use Rattle.flt_tree.specs.declared.variable.ContextVariable.TheVariants.{C0}
use Rattle.flt_tree.specs.declared.variable.OperationVariable.TheVariants.{Data}
use Rattle.flt_model.specs.declared.moves.JournalEntry.TheVariants.{Move, Go}
use Rattle.flt_model.specs.declared.moves.Move.TheVariants as move
use Rattle.flt_model.specs.declared.verdict.Verdict.TheVariants.{Legal, NotARun, Breaks}
use Rattle.flt_model.specs.declared.verdict.Violation.TheVariants.{V1, V2, V3, V4, V5, V6, V7, V8}
use Rattle.flt_model.specs.Expansion.{verdict}
use Rattle.flt_model.specs.WorkedParts.{computed, call, return, if_call, on, filter, locking}
use Rattle.flt_model.specs.WorkedParts.{lock, routine, passes, arrive, pre, lower, post, go}

-- a filter of one pre callback
abbrev pub reading : List Statement → List Filter
reading body = filter 100 (on (head.Pre Read) body ∷ []) ∷ []

abbrev pub no_callback : Statement
no_callback = return status.NoCallback

-- ---- V1: a variable that is NULL is released; a context is released twice

pub releases_nothing : verdict (reading (call (plain.ReleaseContext C0) ∷ no_callback ∷ [])) (arrive Read ∷ pre 0 ∷ go 0 1 ∷ [])
    ≡ Breaks V1 2
unfolding computed
releases_nothing = refl

abbrev pub makes_one : List Statement → List Filter
makes_one body = reading (if_call (fallible.AllocateContext C0) body [] ∷ no_callback ∷ [])

pub releases_twice :
    verdict (makes_one (call (plain.ReleaseContext C0) ∷ call (plain.ReleaseContext C0) ∷ []))
    (arrive Read ∷ pre 0 ∷ go 0 1 ∷ go 0 1 ∷ go 0 1 ∷ []) ≡ Breaks V1 4
unfolding computed
releases_twice = refl

-- ---- V2: a context is held at the end

pub leaks : verdict (makes_one (no_callback ∷ [])) (arrive Read ∷ pre 0 ∷ go 0 1 ∷ go 0 1 ∷ []) ≡ Breaks V2 3
unfolding computed
leaks = refl

-- where the allocation fails there is nothing to leak
pub leaks_nothing : verdict (makes_one (no_callback ∷ [])) (arrive Read ∷ pre 0 ∷ Go 0 1 false ∷ go 0 1 ∷ lower 0 ∷ []) ≡ Legal
unfolding computed
leaks_nothing = refl

-- ---- V3: a work item completes the operation, and then the callback that queued it passes it on

abbrev pub completes_twice : List Filter
completes_twice =
    filter 100
    (on (head.Pre Read) (if_call (fallible.QueueDeferredIoWorkItem (routine 114) None) [] [] ∷ no_callback ∷ [])
    ∷ on (head.DeferredPre (114 ∷ [])) (call (plain.CompletePendedPreOperation Data status.NoCallback) ∷ []) ∷ []) ∷ []

pub settles_twice :
    verdict completes_twice (arrive Read ∷ pre 0 ∷ go 0 1 ∷ Move (move.Work 0) ∷ go 1 1 ∷ go 0 1 ∷ []) ≡ Breaks V3 5
unfolding computed
settles_twice = refl

-- ---- V4: the operation is pended, and nobody has it

pub pends_what_it_holds : verdict (reading (return status.Pending ∷ [])) (arrive Read ∷ pre 0 ∷ go 0 1 ∷ []) ≡ Breaks V4 2
unfolding computed
pends_what_it_holds = refl

-- ---- V5: a pre callback without a status, or with one of the other kind; a fast operation is queued

pub returns_no_status : verdict (reading []) (arrive Read ∷ pre 0 ∷ go 0 1 ∷ []) ≡ Breaks V5 2
unfolding computed
returns_no_status = refl

pub returns_wrong_kind : verdict (reading (return status.FinishedProcessing ∷ [])) (arrive Read ∷ pre 0 ∷ go 0 1 ∷ []) ≡ Breaks V5 2
unfolding computed
returns_wrong_kind = refl

pub wants_missing_post : verdict (reading (return (status.WithCallback None) ∷ [])) (arrive Read ∷ pre 0 ∷ go 0 1 ∷ []) ≡ Breaks V5 2
unfolding computed
wants_missing_post = refl

pub queues_fast :
    verdict (reading (if_call (fallible.InsertIo None) (return status.Pending ∷ []) [] ∷ no_callback ∷ []))
    (Move (move.Arrive Read FastIo 0) ∷ pre 0 ∷ go 0 1 ∷ []) ≡ Breaks V5 2
unfolding computed
queues_fast = refl

-- ---- V6: a post callback runs at DISPATCH_LEVEL; a spin lock raises to it

abbrev pub gets : Statement
gets = if_call (fallible.GetContext Instance C0) (call (plain.ReleaseContext C0) ∷ []) []

pub gets_in_post :
    verdict (filter 100 (passes Read ∷ on (head.Post Read) (gets ∷ return status.FinishedProcessing ∷ []) ∷ []) ∷ [])
    (arrive Read ∷ pre 0 ∷ go 0 1 ∷ lower 0 ∷ post 0 ∷ go 1 1 ∷ []) ≡ Breaks V6 5
unfolding computed
gets_in_post = refl

abbrev pub with_locks : List Statement → List Filter
with_locks body = locking (lock Spin ∷ lock Spin ∷ []) (on (head.Pre Read) body ∷ []) ∷ []

abbrev pub takes_first : Statement
takes_first = call (plain.AcquireLock Spin L0)

abbrev pub takes_second : Statement
takes_second = call (plain.AcquireLock Spin L1)

abbrev pub gives_first : Statement
gives_first = call (plain.ReleaseLock Spin L0)

pub gets_under_lock : verdict (with_locks (takes_first ∷ gets ∷ [])) (arrive Read ∷ pre 0 ∷ go 0 1 ∷ go 0 1 ∷ []) ≡ Breaks V6 3
unfolding computed
gets_under_lock = refl

-- ---- V7: a lock is released that isn't the latest, taken twice, kept at the end

pub releases_older : verdict (with_locks (takes_first ∷ takes_second ∷ gives_first ∷ []))
    (arrive Read ∷ pre 0 ∷ go 0 1 ∷ go 0 1 ∷ go 0 1 ∷ []) ≡ Breaks V7 4
unfolding computed
releases_older = refl

pub takes_twice : verdict (with_locks (takes_first ∷ takes_first ∷ [])) (arrive Read ∷ pre 0 ∷ go 0 1 ∷ go 0 1 ∷ []) ≡ Breaks V7 3
unfolding computed
takes_twice = refl

pub keeps_lock : verdict (with_locks (takes_first ∷ no_callback ∷ [])) (arrive Read ∷ pre 0 ∷ go 0 1 ∷ go 0 1 ∷ []) ≡ Breaks V7 3
unfolding computed
keeps_lock = refl

-- a lock that another activation holds can't be taken
pub waits : verdict (with_locks (takes_first ∷ gives_first ∷ no_callback ∷ []))
    (arrive Read ∷ arrive Read ∷ pre 0 ∷ pre 1 ∷ go 0 1 ∷ go 1 1 ∷ []) ≡ NotARun 5
unfolding computed
waits = refl

-- ---- V8: a create has no stream on its way down

pub gets_stream_in_create :
    verdict (filter 100 (on (head.Pre Create) (if_call (fallible.GetContext Stream C0) [] [] ∷ no_callback ∷ []) ∷ []) ∷ [])
    (arrive Create ∷ pre 0 ∷ go 0 1 ∷ []) ≡ Breaks V8 2
unfolding computed
gets_stream_in_create = refl

-- ---- no runs: nothing is there at the start; no steps at all; a step too many, and one too few before the one that is seen

pub nothing_arrived : verdict (reading (no_callback ∷ [])) (pre 0 ∷ []) ≡ NotARun 0
unfolding computed
nothing_arrived = refl

pub goes_nowhere : verdict (reading (no_callback ∷ [])) (arrive Read ∷ pre 0 ∷ go 0 0 ∷ []) ≡ NotARun 2
unfolding computed
goes_nowhere = refl

pub goes_too_far : verdict (reading (no_callback ∷ [])) (arrive Read ∷ pre 0 ∷ go 0 2 ∷ []) ≡ NotARun 2
unfolding computed
goes_too_far = refl

pub refuses_without_choice : verdict (reading (no_callback ∷ [])) (arrive Read ∷ pre 0 ∷ Go 0 1 false ∷ []) ≡ NotARun 2
unfolding computed
refuses_without_choice = refl
