-- What is followed along the paths of a graph, how far, and what ends the search. This project's own definitions.
use Rattle.std.specs.Prelude.{ℕ, Bool, true, false, not, ◌==◌, ◌&&◌, ◌||◌, if◌then◌else◌, Option, Some, None}
use Rattle.flt_rules.specs.declared.call.Call.{Call}
use Rattle.flt_rules.specs.declared.call.Call.TheVariants as call
use Rattle.flt_tree.specs.Filter.{named_context}
use Rattle.flt_tree.specs.Variable.{context_place}
use Rattle.flt_tree.specs.declared.filter.Action.{Action}
use Rattle.flt_tree.specs.declared.filter.Action.TheVariants as action
use Rattle.flt_tree.specs.declared.filter.Status.{Status}
use Rattle.flt_tree.specs.declared.filter.Status.TheVariants as status
use Rattle.flt_tree.specs.declared.filter.Test.TheVariants as test
use Rattle.flt_tree.specs.declared.variable.ContextVariable.{ContextVariable}
use Rattle.flt_graph.specs.Graph.{callback_at}
use Rattle.flt_graph.specs.Instruction.{roles}
use Rattle.flt_graph.specs.Points.{successor}
use Rattle.flt_graph.specs.declared.graph.Graph.{Graph}
use Rattle.flt_graph.specs.declared.instruction.Instruction.{Instruction}
use Rattle.flt_graph.specs.declared.instruction.Instruction.TheVariants as instruction
use Rattle.flt_graph.specs.declared.instruction.Invocation.{Invocation}
use Rattle.flt_explain_warnings.specs.Reading.{removes_in}
use Rattle.flt_explain_warnings.specs.declared.trail.Trail.{Trail}
use Rattle.flt_explain_warnings.specs.declared.trail.Trail.TheVariants.{Pended, Lost, Shared}

-- a variable of contexts is the one that is named
abbrev pub is_named : Option ContextVariable → ContextVariable → Bool
is_named (Some named) v = context_place named == context_place v
is_named None v = false

-- ---- an operation in the queue

-- a routine, if there is one, takes operations out of the queue
abbrev pub routine_removes : Graph → Option ℕ → Bool
routine_removes g (Some n) = removes_in (callback_at g n)
routine_removes g None = false

-- the instruction queues a work item whose routine takes operations out of the queue, or tries to
abbrev pub queues_removal : Graph → Instruction → Bool
queues_removal g (instruction.Call c granted refused) = routine_removes g (roles c).routine
queues_removal g _ = false

-- the status is PENDING
abbrev pub is_pending : Option Status → Bool
is_pending (Some status.Pending) = true
is_pending _ = false

-- the instruction returns PENDING
abbrev pub returns_pending : Instruction → Bool
returns_pending (instruction.Return st) = is_pending st
returns_pending _ = false

-- ---- a context that wasn't set

-- the call sets a context, whether or not one may be there
abbrev pub is_set : Call → Bool
is_set (call.SetContext a e) = true
is_set _ = false

-- the call releases its context
abbrev pub is_release : Call → Bool
is_release call.ReleaseContext = true
is_release _ = false

-- the call gives the variable another context, releases its context, or tries to set it once more
abbrev pub settles_by : Invocation → ContextVariable → Bool
settles_by c v = is_named c.output v || ((is_set c.call || is_release c.call) && is_named c.context v)

-- from this instruction on the variable's context isn't the one any more that wasn't set, or nothing is known of it
abbrev pub settles : Instruction → ContextVariable → Bool
settles (instruction.Act (action.ClearContext c) next) v = is_named (Some c) v
settles (instruction.Call c granted refused) v = settles_by (roles c) v
settles _ v = false

-- by this outcome a test finds that the variable is NULL
abbrev pub finds_null : Instruction → Bool → Option ContextVariable → Bool
finds_null (instruction.Test (test.ContextIsSome c) granted refused) outcome v = not outcome && is_named v c
finds_null _ outcome v = false

-- the call hands its context on: with an operation, to a routine, or as a completion context
abbrev pub hands_on : Call → Bool
hands_on call.InsertIo = true
hands_on call.QueueDeferredIoWorkItem = true
hands_on call.QueueGenericWorkItem = true
hands_on (call.CompletePendedPreOperation whose) = true
hands_on _ = false

-- the action reads or writes the value of the variable's context
abbrev pub action_uses : Action → ContextVariable → Bool
action_uses (action.ReadValue n c) v = is_named (Some c) v
action_uses (action.WriteValue c a) v = is_named (Some c) v
action_uses _ v = false

-- the status names the variable's context as completion context
abbrev pub status_uses : Option Status → ContextVariable → Bool
status_uses st v = is_named (named_context st) v

-- the instruction reads or writes the value of the variable's context, or hands the context on
abbrev pub uses : Instruction → ContextVariable → Bool
uses (instruction.Act a next) v = action_uses a v
uses (instruction.Call c granted refused) v = hands_on (roles c).call && is_named (roles c).context v
uses (instruction.Return st) v = status_uses st v
uses _ v = false

-- ---- a context that others may have

-- the instruction gives the variable another context, or none
abbrev pub renews : Instruction → ContextVariable → Bool
renews (instruction.Act (action.ClearContext c) next) v = is_named (Some c) v
renews (instruction.Call c granted refused) v = is_named (roles c).output v
renews _ v = false

-- ---- all

-- the trail is lost behind an instruction by an outcome: a work item is queued that removes; the variable's context is another one,
-- released or tried again, or the variable that received the other context is NULL, so there was none; the variable's context is another
-- one, or none
abbrev pub stops : Graph → Trail → Instruction → Bool → Bool
stops g Pended i outcome = queues_removal g i
stops g (Lost c there) i outcome = settles i c || finds_null i outcome there
stops g (Shared c) i outcome = renews i c

-- where the trail leads behind an instruction by an outcome
abbrev pub onward : Graph → Trail → Instruction → Bool → Option ℕ
onward g t i outcome = if stops g t i outcome then None else successor i outcome

-- what is looked for: a return with PENDING; a use of the context, of either kind
abbrev pub ends : Trail → Instruction → Bool
ends Pended i = returns_pending i
ends (Lost c there) i = uses i c
ends (Shared c) i = uses i c
