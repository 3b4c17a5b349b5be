-- Calls and tests at places where they aren't legal (R08), by call and place. This project's own program.
use Rattle.std.specs.Prelude.{[], ◌∷◌, codes, Option, Some, None}
use Rattle.std.specs.List.{concat}
use Rattle.flt_rules.specs.Table.{row}
use Rattle.flt_rules.specs.declared.call.Call.{Call}
use Rattle.flt_rules.specs.declared.call.Call.TheVariants.{CompletePendedPreOperation, CompletePendedPostOperation}
use Rattle.flt_rules.specs.declared.call.Possessed.TheVariants.{Given}
use Rattle.flt_rules.specs.declared.columns.Places.{Places}
use Rattle.flt_rules.specs.declared.columns.Places.TheVariants.{NotPreCreate, PreOrDeferredPre, PreOrPost}
use Rattle.flt_rules.specs.declared.place.Place.{Place}
use Rattle.flt_rules.specs.declared.place.Place.TheVariants.{Pre, Post, Canceled, DeferredPre, DeferredPost}
use Rattle.flt_tree.specs.Names.{Text}
use Rattle.flt_graph.specs.declared.instruction.Invocation.{Invocation}
use Rattle.flt_explain.specs.declared.finding.Subject.{Subject}
use Rattle.flt_explain.specs.declared.finding.Subject.TheVariants.{Draining}
use Rattle.flt_explain_advice.specs.Case.{Circumstances, call_in, head, instruction, place}
use Rattle.flt_explain_texts.specs.Names.{call_name}
use Rattle.flt_explain_texts.specs.Page.{marked, quoted}

-- ---- title

-- what isn't legal: a call, or the test of draining
abbrev pub name_of : Option Invocation → Text
name_of (Some c) = call_name c.call
name_of None = codes "draining"

abbrev pub when_of : Option Invocation → Subject → Text
when_of (Some c) Draining = codes " while draining"
when_of _ _ = []

-- that a name isn't allowed in a callback
unfoldable pub not_allowed : Circumstances → Text → Text → Text
not_allowed x name when = concat (marked name ∷ codes " isn't allowed in " ∷ quoted (head x) ∷ when ∷ [])

unfoldable pub title : Circumstances → Text
title x = not_allowed x (name_of (call_in (instruction x))) (when_of (call_in (instruction x)) x.finding.subject)

-- ---- help

-- what to do in place of completing the operation that the callback was given
abbrev pub completion_help : Place → Text
completion_help (Pre o) =
    codes "a `pre` callback ends its operation by the status that it returns: `return COMPLETE STATUS_SUCCESS`"
completion_help (Post o) = codes "the operation is completed already: return `FINISHED_PROCESSING`"
completion_help DeferredPost = codes "`deferred_post` resumes its operation by `FltCompletePendedPostOperation data`"
completion_help _ = codes "a generic routine has no operation: complete one that was removed from the queue"

-- what to do in place of going on with an operation on its path up
abbrev pub post_completion_help : Place → Text
post_completion_help (Post o) = codes "return `FINISHED_PROCESSING`: only a deferred operation needs this call"
post_completion_help Canceled = codes "an operation that goes down is completed by `FltCompletePendedPreOperation`"
post_completion_help DeferredPre = codes "an operation that goes down is completed by `FltCompletePendedPreOperation`"
post_completion_help _ = codes "only the routine of `FltQueueDeferredIoWorkItem` in a `post` callback needs this call"

-- the same by the call
abbrev pub call_help : Call → Place → Text
call_help (CompletePendedPreOperation Given) p = completion_help p
call_help CompletePendedPostOperation p = post_completion_help p
call_help _ p = codes "see `fltstack explain R08`"

-- where a call may be made, by its places
abbrev pub places_help : Places → Call → Place → Text
places_help NotPreCreate c p =
    codes "a create has no stream while it goes down: make the call in `post create`, after the test of `draining`"
places_help PreOrDeferredPre c p =
    codes "an operation is queued only while it goes down: in a `pre` callback, or in `deferred_pre`"
places_help PreOrPost c p =
    codes "an operation is deferred by its `pre` or `post` callback alone: do the work here, or in the routine of a generic work item"
places_help _ c p = call_help c p

abbrev pub help_by : Option Invocation → Subject → Place → Text
help_by None u p = codes "only a `post` callback is ever drained: leave the test out, or ask it there"
help_by (Some c) Draining p =
    codes "test `draining` first, and make the call where it doesn't hold: a draining callback only releases what it has"
help_by (Some c) _ p = places_help (row c.call).places c.call p

unfoldable pub help : Circumstances → Text
help x = help_by (call_in (instruction x)) x.finding.subject (place x)
