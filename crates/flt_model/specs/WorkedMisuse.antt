-- What the machine does where callbacks use it wrongly: the violation, and how the run goes on.
use Rattle.std.specs.Prelude.{◌≡◌, refl, List, [], ◌∷◌, ◌++◌, Some, None}
use Rattle.flt_rules.specs.Held.{held}
use Rattle.flt_rules.specs.declared.call.Anchor.TheVariants.{Instance}
use Rattle.flt_rules.specs.declared.call.LockNumber.TheVariants.{L1}
use Rattle.flt_rules.specs.declared.held.Access.TheVariants.{Exclusive}
use Rattle.flt_rules.specs.declared.place.Operation.TheVariants.{Create, Read, Write}
use Rattle.flt_rules.specs.declared.status.FinalStatus.TheVariants as final
use Rattle.flt_tree.specs.declared.filter.FallibleCall.TheVariants as fallible
use Rattle.flt_tree.specs.declared.filter.Filter.{Filter}
use Rattle.flt_tree.specs.declared.filter.Head.TheVariants as head
use Rattle.flt_tree.specs.declared.filter.PlainCall.TheVariants as plain
use Rattle.flt_tree.specs.declared.filter.Statement.{Statement}
use Rattle.flt_tree.specs.declared.filter.Status.{Status}
use Rattle.flt_tree.specs.declared.filter.Status.TheVariants as status
use Rattle.flt_tree.specs.declared.variable.ContextVariable.TheVariants.{C0}
use Rattle.flt_tree.specs.declared.variable.OperationVariable.TheVariants.{Data}
use Rattle.flt_model.specs.declared.moves.JournalEntry.{JournalEntry}
use Rattle.flt_model.specs.declared.moves.JournalEntry.TheVariants.{Move}
use Rattle.flt_model.specs.declared.moves.Move.TheVariants as move
use Rattle.flt_model.specs.declared.verdict.Verdict.TheVariants.{Legal, Breaks}
use Rattle.flt_model.specs.declared.verdict.Violation.TheVariants.{V1, V2, V4, V5, V8}
use Rattle.flt_model.specs.Expansion.{verdict}
use Rattle.flt_model.specs.World.{Completed, Down, Up}
use Rattle.flt_model.specs.WorkedParts.{computed, played, references_after, outcomes_after, positions_after, locks_after}
use Rattle.flt_model.specs.WorkedParts.{call, return, if_call, on, filter, routine, passes, arrive, pre, lower, go}
use Rattle.flt_model.specs.WorkedBreaks.{reading, makes_one, no_callback, with_locks, takes_first, takes_second, gives_first}
use Rattle.flt_model.specs.WorkedContexts.{sets}

-- ---- references: a release by who doesn't hold drops one all the same; a freed context stays as it is

abbrev pub over_releases : List Filter
over_releases = filter 100
    (sets
    ∷ on (head.Pre Read)
    (if_call (fallible.GetContext Instance C0)
    (call (plain.ReleaseContext C0) ∷ call (plain.ReleaseContext C0) ∷ call (plain.ReleaseContext C0) ∷ []) []
    ∷ no_callback ∷ []) ∷ []) ∷ []

-- a write sets the instance's context; a read gets it and releases it
abbrev pub got_and_released : List JournalEntry
got_and_released =
    arrive Write ∷ pre 0 ∷ go 0 1 ∷ go 0 1 ∷ go 0 1 ∷ go 0 1 ∷ arrive Read ∷ pre 1 ∷ go 1 1 ∷ go 1 1 ∷ []

pub released_once : references_after over_releases got_and_released ≡ Some (1 ∷ [])
unfolding computed
released_once = refl

pub released_twice-breaks : verdict over_releases (got_and_released ++ go 1 1 ∷ []) ≡ Breaks V1 10
unfolding computed
released_twice-breaks = refl

pub released_twice : references_after over_releases (got_and_released ++ go 1 1 ∷ []) ≡ Some (0 ∷ [])
unfolding computed
released_twice = refl

-- the link's reference is gone, and one that is freed isn't brought back by who gets it
pub released_thrice : references_after over_releases (got_and_released ++ go 1 1 ∷ go 1 1 ∷ arrive Read ∷ pre 2 ∷ go 2 1 ∷ [])
    ≡ Some (0 ∷ [])
unfolding computed
released_thrice = refl

-- ---- a context that no frame takes over is leaked

pub hands_to_nobody : verdict (makes_one (return (status.WithCallback (Some C0)) ∷ []))
    (arrive Read ∷ pre 0 ∷ go 0 1 ∷ go 0 1 ∷ []) ≡ Breaks V2 3
unfolding computed
hands_to_nobody = refl

-- ---- an entry's context is NULL: nothing is queued, and the call fails

abbrev pub inserts_nothing : List Filter
inserts_nothing = reading (if_call (fallible.InsertIo (Some C0)) [] (no_callback ∷ []) ∷ [])

pub inserts_nothing-breaks : verdict inserts_nothing (arrive Read ∷ pre 0 ∷ go 0 1 ∷ []) ≡ Breaks V1 2
unfolding computed
inserts_nothing-breaks = refl

pub inserts_nothing-goes_on : positions_after inserts_nothing (arrive Read ∷ pre 0 ∷ go 0 1 ∷ go 0 1 ∷ []) ≡ Some (Down 1 ∷ [])
unfolding computed
inserts_nothing-goes_on = refl

-- ---- statuses that can't be meant

-- what a pre callback returns
abbrev pub returning : Status → List Filter
returning st = reading (return st ∷ [])

abbrev pub returned : List JournalEntry
returned = arrive Read ∷ pre 0 ∷ go 0 1 ∷ []

pub other_kind : positions_after (returning status.MoreProcessingRequired) returned ≡ Some (Down 1 ∷ [])
unfolding computed
other_kind = refl

pub no_post : positions_after (returning (status.Synchronize None)) returned ≡ Some (Down 1 ∷ [])
unfolding computed
no_post = refl

-- it is reported, and has its usual effect
pub completes_pending : verdict (returning (status.Complete final.Pending)) returned ≡ Breaks V5 2
unfolding computed
completes_pending = refl

pub completes_pending-outcome : outcomes_after (returning (status.Complete final.Pending)) returned ≡ Some
    (Some (Completed final.Pending) ∷ [])
unfolding computed
completes_pending-outcome = refl

-- what a work item hands on
abbrev pub handing : List Statement → List Filter
handing body = filter 100
    (on (head.Pre Read) (if_call (fallible.QueueDeferredIoWorkItem (routine 114) None) (return status.Pending ∷ []) [] ∷ no_callback ∷ [])
    ∷ on (head.DeferredPre (114 ∷ [])) body ∷ []) ∷ []

abbrev pub hands : Status → Statement
hands st = call (plain.CompletePendedPreOperation Data st)

abbrev pub handed : List JournalEntry
handed = arrive Read ∷ pre 0 ∷ go 0 1 ∷ go 0 1 ∷ Move (move.Work 0) ∷ go 1 1 ∷ []

pub hands_no_callback : verdict (handing (hands status.NoCallback ∷ [])) (handed ++ go 1 1 ∷ lower 0 ∷ []) ≡ Legal
unfolding computed
hands_no_callback = refl

pub hands_pending : verdict (handing (hands status.Pending ∷ [])) handed ≡ Breaks V5 5
unfolding computed
hands_pending = refl

pub hands_pending-goes_on : positions_after (handing (hands status.Pending ∷ [])) handed ≡ Some (Down 1 ∷ [])
unfolding computed
hands_pending-goes_on = refl

pub hands_disallow-goes_on : positions_after (handing (hands status.DisallowFastIo ∷ [])) handed ≡ Some (Down 1 ∷ [])
unfolding computed
hands_disallow-goes_on = refl

-- a routine of the wrong stage completes it
pub wrong_stage : verdict (handing (call plain.CompletePendedPostOperation ∷ [])) handed ≡ Breaks V5 5
unfolding computed
wrong_stage = refl

pub wrong_stage-goes_on : positions_after (handing (call plain.CompletePendedPostOperation ∷ [])) handed ≡ Some (Down 1 ∷ [])
unfolding computed
wrong_stage-goes_on = refl

-- a routine returns a status, and settles nothing by it
pub routine_returns : verdict (handing (hands status.NoCallback ∷ return status.NoCallback ∷ [])) (handed ++ go 1 1 ∷ []) ≡ Breaks V5 6
unfolding computed
routine_returns = refl

-- it ends without completing
pub routine_forgets : verdict (handing []) handed ≡ Breaks V4 5
unfolding computed
routine_forgets = refl

-- ---- what is settled stays where it is: completed by the work item, it isn't moved by the return

abbrev pub settled_before : List Filter
settled_before = filter 100
    (on (head.Pre Read) (if_call (fallible.QueueDeferredIoWorkItem (routine 114) None) [] [] ∷ no_callback ∷ [])
    ∷ on (head.DeferredPre (114 ∷ [])) (hands (status.Complete final.Success) ∷ []) ∷ []) ∷ []

pub settled_stays : positions_after settled_before (arrive Read ∷ pre 0 ∷ go 0 1 ∷ Move (move.Work 0) ∷ go 1 1 ∷ go 0 1 ∷ [])
    ≡ Some (Up ∷ [])
unfolding computed
settled_stays = refl

-- ---- locks

abbrev pub three_steps : List JournalEntry
three_steps = arrive Read ∷ pre 0 ∷ go 0 1 ∷ go 0 1 ∷ go 0 1 ∷ []

-- taken twice, it is held once
pub taken_twice : locks_after (with_locks (takes_first ∷ takes_first ∷ gives_first ∷ [])) three_steps ≡ Some ([] ∷ [])
unfolding computed
taken_twice = refl

pub older_released : locks_after (with_locks (takes_first ∷ takes_second ∷ gives_first ∷ [])) three_steps ≡ Some
    ((held L1 Exclusive ∷ []) ∷ [])
unfolding computed
older_released = refl

pub not_held : locks_after (with_locks (takes_second ∷ gives_first ∷ no_callback ∷ [])) three_steps ≡ Some ((held L1 Exclusive ∷ []) ∷ [])
unfolding computed
not_held = refl

-- a lock that was kept at the end stays held: nobody takes it any more
pub kept_for_ever : played (with_locks (takes_first ∷ no_callback ∷ []))
    (arrive Read ∷ pre 0 ∷ go 0 1 ∷ go 0 1 ∷ arrive Read ∷ pre 1 ∷ go 1 1 ∷ []) ≡ None
unfolding computed
kept_for_ever = refl

-- ---- a draining callback only cleans up

abbrev pub drains_badly : List Filter
drains_badly = filter 100
    (passes Create ∷ on (head.Post Create)
    (if_call (fallible.GetContext Instance C0) [] [] ∷ return status.FinishedProcessing ∷ []) ∷ []) ∷ []

pub drains_badly-breaks :
    verdict drains_badly (arrive Create ∷ pre 0 ∷ go 0 1 ∷ Move (move.Detach 100) ∷ Move (move.Drain 100 0) ∷ go 1 1 ∷ []) ≡ Breaks V8 5
unfolding computed
drains_badly-breaks = refl
