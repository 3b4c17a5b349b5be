-- Why an entry isn't enabled, in words. This project's own program.
use Rattle.std.specs.Prelude.{ℕ, List, [], ◌++◌, Option, Some, None, codes}
use Rattle.std.specs.Fmt.{decimal}
use Rattle.flt_rules.specs.Place.{always_irp_named}
use Rattle.flt_tree.specs.Names.{Text}
use Rattle.flt_explain_timeline.specs.declared.refusal.Refusal.{Refusal}
use Rattle.flt_explain_timeline.specs.declared.refusal.Refusal.TheVariants as refusals

-- the operations with which a reason begins
abbrev pub subject : Refusal → Text
subject refusals.IsPacket = always_irp_named
subject _ = []

-- the words of a reason, without these operations and without the number of a step
abbrev pub reason : Refusal → Text
reason refusals.IsPacket = codes " are `irp`"
reason refusals.NoFile = codes "files are numbered below 1,024"
reason refusals.NoOperation = codes "no such operation has arrived"
reason refusals.IsVisited = codes "a filter has the operation: it is in a visit"
reason refusals.GoesUp = codes "the operation is going up"
reason refusals.GoesDown = codes "the operation is going down"
reason refusals.IsBelow = codes "the operation is below the last filter: `lower` is next"
reason refusals.IsAbove = codes "the operation isn't below the last filter yet"
reason refusals.HasPre = codes "the filter there has a pre callback of it: `pre` is next"
reason refusals.HasNoPre = codes "the filter there has no pre callback of it, or isn't attached: `skip` is next"
reason refusals.NoFrame = codes "no post callback of the operation is left"
reason refusals.IsDone = codes "the operation is done"
reason refusals.IsCancelled = codes "the operation is cancelled already"
reason refusals.NoFilter = codes "no filter has this altitude"
reason refusals.IsNotAttached = codes "the filter's teardown has begun already"
reason refusals.IsNotDetaching = codes "the filter isn't being detached"
reason refusals.NeedNotEnd = codes "the operation isn't cancelled, and the filter isn't being detached"
reason refusals.NoEntry = codes "the filter's queue has no entry of the operation"
reason refusals.NoFrameOf = codes "the operation has no post callback of the filter left"
reason refusals.NoLink = codes "the filter has no context linked there"
reason refusals.IsNotDrained =
    codes "the filter has a frame, an entry of its queue, a work item, a linked context or a running callback left"
reason refusals.NoItem = codes "there is no such work item"
reason refusals.ItemIsTaken = codes "the work item is taken already"
reason refusals.NoActivation = codes "no such activation has started"
reason refusals.HasEnded = codes "the activation has ended"
reason refusals.NoStep = codes "an entry has one step at least"
reason (refusals.IsSeen step) = codes "the entry ends with the first step that others see, which is step "
reason refusals.IsUnseen = codes "nobody else sees the last of these steps"
reason refusals.NoChoice = codes "the step leaves no choice: write `yes`"
reason refusals.IsLocked = codes "another activation holds the lock"

-- the number of the step that others see first, where that is the reason
abbrev pub step_of : Refusal → Option ℕ
step_of (refusals.IsSeen step) = Some step
step_of _ = None

-- a number, if there is one
abbrev pub maybe_number : Option ℕ → Text
maybe_number (Some number) = decimal number
maybe_number None = []

-- the words of a reason
abbrev pub refusal_words : Refusal → Text
refusal_words refusal = subject refusal ++ reason refusal ++ maybe_number (step_of refusal)
