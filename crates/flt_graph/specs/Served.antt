-- What the calls of a filter name is there: a queue's `canceled`, a work item's routine.
use Rattle.std.specs.Prelude.{◌≡◌, ℕ, true, List, Option, Some, None, slice_get}
use Rattle.flt_rules.specs.declared.call.Call.{Call}
use Rattle.flt_rules.specs.declared.call.Call.TheVariants as call
use Rattle.flt_rules.specs.declared.place.Place.{Place}
use Rattle.flt_rules.specs.declared.place.Place.TheVariants as place
use Rattle.flt_tree.specs.Filter.{head_place}
use Rattle.flt_tree.specs.Declarations.{has_event}
use Rattle.flt_tree.specs.declared.filter.Callback.{Callback}
use Rattle.flt_tree.specs.declared.filter.Head.TheVariants as head
use Rattle.flt_graph.specs.Instruction.{roles}
use Rattle.flt_graph.specs.declared.instruction.Instruction.{Instruction}
use Rattle.flt_graph.specs.declared.instruction.Instruction.TheVariants as instruction

-- the callback of a number is there, and runs at the place
abbrev pub IsRoutine : List Callback → Place → Option ℕ → Type 0
IsRoutine cs at None = ⊥
IsRoutine cs at (Some n) = (c : Callback) × ((slice_get cs n ≡ Some c) × (head_place c.head ≡ at))

-- the routine that goes on with an operation is there: a `deferred_pre` for what a pre callback was given, a `deferred_post` for
-- what a post callback was given; no other place may queue such a work item
abbrev pub IsDeferred : List Callback → Place → Option ℕ → Type 0
IsDeferred cs (place.Pre kind) routine = IsRoutine cs place.DeferredPre routine
IsDeferred cs (place.Post kind) routine = IsRoutine cs place.DeferredPost routine
IsDeferred cs _ routine = Unit {0}

-- what a call wants of the filter's callbacks is there, where it stands in a callback of the place and names this routine
abbrev pub IsCallServed : List Callback → Place → Call → Option ℕ → Type 0
IsCallServed cs at call.InsertIo routine = has_event head.Canceled cs ≡ true
IsCallServed cs at call.RemoveNextIo routine = has_event head.Canceled cs ≡ true
IsCallServed cs at call.QueueDeferredIoWorkItem routine = IsDeferred cs at routine
IsCallServed cs at call.QueueGenericWorkItem routine = IsRoutine cs place.Generic routine
IsCallServed cs at _ routine = Unit {0}

-- the same of an instruction
abbrev pub IsInstructionServed : List Callback → Place → Instruction → Type 0
IsInstructionServed cs at (instruction.Call c granted refused) = IsCallServed cs at (roles c).call (roles c).routine
IsInstructionServed cs at _ = Unit {0}
