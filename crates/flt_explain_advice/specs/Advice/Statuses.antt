-- Statuses that aren't legal (R06): what is wrong with one, and how to fix it. This project's own program.
use Rattle.std.specs.Prelude.{Bool, true, false, not, ◌&&◌, if◌then◌else◌, List, [], ◌∷◌, ◌++◌, codes, find, Option, Some, None}
use Rattle.std.specs.List.{concat, list_any}
use Rattle.flt_rules.specs.Place.{all_operations, answers, fits_stage, is_always_irp, is_pre_create, operation_name, same_operation}
use Rattle.flt_rules.specs.Status.{is_complete, status_row}
use Rattle.flt_rules.specs.declared.call.Call.{Call}
use Rattle.flt_rules.specs.declared.call.Call.TheVariants.{InsertIo, QueueDeferredIoWorkItem}
use Rattle.flt_rules.specs.declared.place.Operation.{Operation}
use Rattle.flt_rules.specs.declared.place.Place.{Place}
use Rattle.flt_rules.specs.declared.place.Place.TheVariants as callback
use Rattle.flt_rules.specs.declared.place.Stage.TheVariants as stage
use Rattle.flt_rules.specs.declared.status.Possession.{Possession}
use Rattle.flt_rules.specs.declared.status.Possession.TheVariants as possession
use Rattle.flt_tree.specs.Filter.{completes_pending, word_of}
use Rattle.flt_tree.specs.Names.{Text}
use Rattle.flt_tree.specs.declared.filter.Status.{Status}
use Rattle.flt_tree.specs.declared.filter.Status.TheVariants.{DisallowFastIo}
use Rattle.flt_tree.specs.declared.variable.OperationVariable.TheVariants.{Data}
use Rattle.flt_graph.specs.Instruction.{roles}
use Rattle.flt_graph.specs.declared.graph.CallbackGraph.{CallbackGraph}
use Rattle.flt_graph.specs.declared.graph.Graph.{Graph}
use Rattle.flt_graph.specs.declared.instruction.Instruction.{Instruction}
use Rattle.flt_graph.specs.declared.instruction.Instruction.TheVariants as instruction
use Rattle.flt_explain.specs.declared.finding.Subject.{Subject}
use Rattle.flt_explain.specs.declared.finding.Subject.TheVariants as about
use Rattle.flt_explain_advice.specs.Advice.Reasons.{reason, reason_told}
use Rattle.flt_explain_advice.specs.Case.{Circumstances, head, operation_at, place, status_in}
use Rattle.flt_explain_advice.specs.Case as known
use Rattle.flt_explain_texts.specs.Names.{status_name}
use Rattle.flt_explain_texts.specs.Page.{marked, quoted}
use Rattle.flt_explain_advice.specs.declared.advice.reasons.Reason.{Reason}
use Rattle.flt_explain_advice.specs.declared.advice.statuses.Wrong.{Wrong}
use Rattle.flt_explain_advice.specs.declared.advice.statuses.Wrong.TheVariants.{PendingIsFinal, NoneIsReturned, OtherStage, NoPost, Create}
use Rattle.flt_explain_advice.specs.declared.advice.statuses.Wrong.TheVariants.{Held, GivenAway, FastIo, Irp, NeverFast, Draining, Queued}
use Rattle.flt_explain_advice.specs.declared.advice.statuses.Wrong.TheVariants.{Deferred, Canceled, NotHanded, Unpaired, Other}

-- ---- callbacks of operations

abbrev pub is_post_of : Operation → Place → Bool
is_post_of o (callback.Post own) = same_operation own o
is_post_of o _ = false

abbrev pub is_pre_of : Operation → Place → Bool
is_pre_of o (callback.Pre own) = same_operation own o
is_pre_of o _ = false

-- whether an operation has a `post` callback
unfoldable pub has_post : Graph → Operation → Bool
has_post g o = list_any (λ (c : CallbackGraph). is_post_of o c.place) g.callbacks

unfoldable pub has_pre : Graph → Operation → Bool
has_pre g o = list_any (λ (c : CallbackGraph). is_pre_of o c.place) g.callbacks

-- whether it has a `pre` callback, and no `post` callback
abbrev pub is_unpaired : Graph → Operation → Bool
is_unpaired g o = has_pre g o && not (has_post g o)

-- the first operation of which that is so
unfoldable pub unpaired : Graph → Option Operation
unpaired g = find (is_unpaired g) all_operations

-- ---- what is wrong

-- with a status that the callback of an operation returns, whatever is so
abbrev pub wrong_for : Circumstances → Operation → Status → Option Wrong
wrong_for x o st =
    if completes_pending st then Some PendingIsFinal
    else (if not (status_row (word_of st)).in_create && is_pre_create (place x) then Some Create
    else (if (status_row (word_of st)).needs_post && not (has_post x.graph o) then Some (NoPost o) else None))

abbrev pub wrong_of_operation : Circumstances → Option Operation → Status → Option Wrong
wrong_of_operation x None st = None
wrong_of_operation x (Some o) st = wrong_for x o st

-- with a returned status, whatever is so
unfoldable pub wrong_anyhow : Circumstances → Status → Option Wrong
wrong_anyhow x st =
    if not (answers (place x)) then Some NoneIsReturned
    else (if not (fits_stage (place x) (status_row (word_of st)).stage) then Some (OtherStage (status_row (word_of st)).stage)
    else wrong_of_operation x (operation_at (place x)) st)

abbrev pub fast_io_refused : Option Operation → Wrong
fast_io_refused None = Irp
fast_io_refused (Some o) = if is_always_irp o then NeverFast o else Irp

-- with the mode in which a status is returned
abbrev pub wrong_mode : Status → Option Operation → Wrong
wrong_mode DisallowFastIo o = fast_io_refused o
wrong_mode _ o = FastIo

-- with the operation, by what the status says of it
abbrev pub wrong_possession : Possession → Wrong
wrong_possession possession.GivenAway = Held
wrong_possession possession.Held = GivenAway

-- with a returned status in what is so
abbrev pub wrong_here : Circumstances → Subject → Status → Wrong
wrong_here x (about.Operation Data) st = wrong_possession (status_row (word_of st)).«data»
wrong_here x about.Mode st = wrong_mode st (operation_at (place x))
wrong_here x about.Draining st = Draining
wrong_here x _ st = Other

abbrev pub or_here : Option Wrong → Wrong → Wrong
or_here (Some w) here = w
or_here None here = here

-- with a returned status
abbrev pub wrong_return : Circumstances → Status → Wrong
wrong_return x st = or_here (wrong_anyhow x st) (wrong_here x x.finding.subject st)

abbrev pub is_canceled : Place → Bool
is_canceled callback.Canceled = true
is_canceled _ = false

abbrev pub wrong_pair : Option Operation → Wrong
wrong_pair (Some o) = Unpaired o
wrong_pair None = Other

-- with a status that a pended operation is given
unfoldable pub wrong_given : Circumstances → Status → Wrong
wrong_given x st =
    if completes_pending st then PendingIsFinal
    else (if not (status_row (word_of st)).handed then NotHanded
    else (if is_canceled (place x) && not (is_complete (word_of st)) then Canceled
    else wrong_pair (unpaired x.graph)))

abbrev pub wrong_if_given : Circumstances → Option Status → Wrong
wrong_if_given x (Some st) = wrong_given x st
wrong_if_given x None = Other

abbrev pub wrong_if_returned : Circumstances → Option Status → Wrong
wrong_if_returned x (Some st) = wrong_return x st
wrong_if_returned x None = Other

-- at a call
abbrev pub wrong_call : Circumstances → Call → Option Status → Wrong
wrong_call x InsertIo st = Queued
wrong_call x QueueDeferredIoWorkItem st = Deferred
wrong_call x _ st = wrong_if_given x st

abbrev pub wrong_at : Circumstances → Instruction → Wrong
wrong_at x (instruction.Call c granted failed) = wrong_call x (roles c).call (roles c).status
wrong_at x (instruction.Return st) = wrong_if_returned x st
wrong_at x _ = Other

unfoldable pub wrong : Circumstances → Wrong
wrong x = wrong_at x (known.instruction x)

-- ---- titles

abbrev pub status_told : Option Status → Text
status_told (Some st) = status_name (word_of st)
status_told None = codes "this status"

-- the word of the status
unfoldable pub word : Circumstances → Text
word x = status_told (status_in (known.instruction x))

-- what is so of it
unfoldable pub of_word : Circumstances → Text → Text
of_word x words = concat (marked (word x) ∷ words ∷ [])

-- that it isn't legal in the callback
unfoldable pub not_legal : Circumstances → Text
not_legal x = concat (marked (word x) ∷ codes " isn't legal in " ∷ quoted (head x) ∷ [])

-- that it isn't, for what it needs
unfoldable pub needing : Circumstances → Text → Operation → Text → Text
needing x before o after = not_legal x ++ concat (before ∷ operation_name o ∷ after ∷ [])

abbrev pub title_by : Circumstances → Wrong → Text
title_by x PendingIsFinal = codes "`STATUS_PENDING` is no final status"
title_by x Queued = codes "a fast I/O can't be queued"
title_by x Deferred = codes "a fast I/O can't be deferred"
title_by x (NoPost o) = needing x (codes ": there is no `post ") o (codes "`")
title_by x (Unpaired o) = needing x (codes ": there is no `post ") o (codes "`")
title_by x (NeverFast o) = needing x (codes ": a ") o (codes " is never fast I/O")
title_by x Held = of_word x (codes " is returned while `data` is still held")
title_by x GivenAway = of_word x (codes " is returned after `data` was given away")
title_by x FastIo = of_word x (codes " isn't legal for a fast I/O")
title_by x Irp = of_word x (codes " isn't legal for an IRP")
title_by x NotHanded = of_word x (codes " can't be given to a pended operation")
title_by x Draining = of_word x (codes " isn't legal while draining")
title_by x NoneIsReturned = not_legal x
title_by x (OtherStage s) = not_legal x
title_by x Create = not_legal x
title_by x Canceled = not_legal x
title_by x Other = not_legal x

unfoldable pub title : Circumstances → Text
title x = title_by x (wrong x)

-- ---- helps

-- the operation is still held
abbrev pub held_help : Place → Text
held_help (callback.Post o) =
    codes "hand `data` to a work item first, and return `MORE_PROCESSING_REQUIRED` only where that succeeds"
held_help _ =
    codes "queue `data` or hand it to a work item first, and return `PENDING` only where that succeeds"

abbrev pub why_given_away : Circumstances → Option Reason → Text
why_given_away x (Some r) = reason_told x r
why_given_away x None = codes "`data` was given away before"

abbrev pub given_away_remedy : Place → Text
given_away_remedy (callback.Post o) = codes ": return `MORE_PROCESSING_REQUIRED` there"
given_away_remedy _ = codes ": return `PENDING` there"

-- the operation was given away: who has it, and what to return
unfoldable pub given_away_help : Circumstances → Text
given_away_help x = why_given_away x (reason x) ++ given_away_remedy (place x)

-- a status for the other mode
unfoldable pub mode_help : Circumstances → Text → Text
mode_help x side = concat (codes "test `irp data`, and return " ∷ marked (word x) ∷ codes " only where it " ∷ side ∷ [])

-- there is no `post` callback
unfoldable pub pairing_help : Operation → Text → Text
pairing_help o verb = concat (codes "add a `post " ∷ operation_name o ∷ codes "`, or " ∷ verb ∷ codes " `NO_CALLBACK`" ∷ [])

-- what is wrong whatever the callback's operation is
abbrev pub plain_help : Wrong → Text
plain_help PendingIsFinal =
    codes "name the status with which the operation ends, such as `STATUS_SUCCESS`; to end it later, queue it and return `PENDING`"
plain_help NoneIsReturned = codes "write `return` alone: the call that completes the operation names the status"
plain_help (OtherStage stage.Post) = codes "this is a status of `post` callbacks: return `NO_CALLBACK`"
plain_help (OtherStage stage.Pre) = codes "this is a status of `pre` callbacks: return `FINISHED_PROCESSING`"
plain_help Create = codes "a create is synchronized as it is: return `WITH_CALLBACK`"
plain_help Draining = codes "test `draining`, and return `FINISHED_PROCESSING` where it holds"
plain_help Queued = codes "test `irp data` first, and queue `data` only where it holds"
plain_help Deferred = codes "test `irp data` first, and defer `data` only where it holds"
plain_help Canceled = codes "a cancelled operation ends here: write `COMPLETE STATUS_CANCELLED`"
plain_help NotHanded = codes "give `WITH_CALLBACK`, `NO_CALLBACK` or `COMPLETE` with a final status"
plain_help (NeverFast o) = codes "return `COMPLETE` with a final status to refuse it, or `NO_CALLBACK` to let it pass"
plain_help _ = codes "see `fltstack explain R06`, which has the table of statuses"

abbrev pub help_by : Circumstances → Wrong → Text
help_by x (NoPost o) = pairing_help o (codes "return")
help_by x (Unpaired o) = pairing_help o (codes "give")
help_by x Held = held_help (place x)
help_by x GivenAway = given_away_help x
help_by x FastIo = mode_help x (codes "holds")
help_by x Irp = mode_help x (codes "doesn't hold")
help_by x w = plain_help w

unfoldable pub help : Circumstances → Text
help x = help_by x (wrong x)
