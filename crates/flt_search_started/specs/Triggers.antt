-- What starts a callback. This project's own definitions.
use Rattle.std.specs.Prelude.{ℕ, ◌==◌, Bool, true, false, ◌&&◌, ◌||◌, Option, Some}
use Rattle.std.specs.List.{list_any}
use Rattle.std.specs.Option.{option_map_or}
use Rattle.flt_rules.specs.Place.{same_operation}
use Rattle.flt_rules.specs.declared.call.Call.{Call}
use Rattle.flt_rules.specs.declared.call.Call.TheVariants as call
use Rattle.flt_rules.specs.declared.place.Place.{Place}
use Rattle.flt_rules.specs.declared.place.Place.TheVariants as place
use Rattle.flt_tree.specs.declared.filter.Status.{Status}
use Rattle.flt_tree.specs.declared.filter.Status.TheVariants as status
use Rattle.flt_graph.specs.Graph.{place_at}
use Rattle.flt_graph.specs.Instruction.{roles}
use Rattle.flt_graph.specs.declared.graph.CallbackGraph.{CallbackGraph}
use Rattle.flt_graph.specs.declared.graph.Graph.{Graph}
use Rattle.flt_graph.specs.declared.graph.Point.{Point}
use Rattle.flt_graph.specs.declared.instruction.Instruction.{Instruction}
use Rattle.flt_graph.specs.declared.instruction.Instruction.TheVariants as instruction
use Rattle.flt_graph.specs.declared.instruction.Invocation.{Invocation}

-- the system itself starts it, for an operation on its way down
abbrev pub is_started_alone : Place → Bool
is_started_alone (place.Pre kind) = true
is_started_alone _ = false

-- a status by which the post callback is called. Source: FLT_PREOP_SUCCESS_WITH_CALLBACK, FLT_PREOP_SYNCHRONIZE
abbrev pub is_calling_back : Option Status → Bool
is_calling_back (Some (status.WithCallback c)) = true
is_calling_back (Some (status.Synchronize c)) = true
is_calling_back _ = false

-- a work item starts this routine
abbrev pub is_item_of : Invocation → ℕ → Bool
is_item_of c n = option_map_or (λ r. r == n) c.routine false

-- a call starts the callback of a number, which is at this place: a completion a post callback, an insert `canceled`, a work item its
-- routine
abbrev pub is_started_to : Call → Invocation → ℕ → Place → Bool
is_started_to (call.CompletePendedPreOperation whose) c n (place.Post kind) = is_calling_back c.status
is_started_to call.InsertIo c n place.Canceled = true
is_started_to call.QueueDeferredIoWorkItem c n place.DeferredPre = is_item_of c n
is_started_to call.QueueDeferredIoWorkItem c n place.DeferredPost = is_item_of c n
is_started_to call.QueueDeferredIoWorkItem c n place.Generic = is_item_of c n
is_started_to call.QueueGenericWorkItem c n place.DeferredPre = is_item_of c n
is_started_to call.QueueGenericWorkItem c n place.DeferredPost = is_item_of c n
is_started_to call.QueueGenericWorkItem c n place.Generic = is_item_of c n
is_started_to _ c n _ = false

-- the status of a pre callback starts the post callback of the same operation
abbrev pub is_started_by_status : Place → Option Status → Place → Bool
is_started_by_status (place.Pre own) st (place.Post kind) = same_operation own kind && is_calling_back st
is_started_by_status _ st _ = false

-- what is done at a point of a callback at the first place starts the callback of a number, at the second
abbrev pub is_started_by : Place → Instruction → ℕ → Place → Bool
is_started_by from (instruction.Call c granted failed) n p = is_started_to (roles c).call (roles c) n p
is_started_by from (instruction.Return st) n p = is_started_by_status from st p
is_started_by from _ n p = false

-- some point of a callback starts the callback of a number
abbrev pub is_started_in : Graph → ℕ → CallbackGraph → Bool
is_started_in g n c = list_any (λ (p : Point). is_started_by c.place p.instruction n (place_at g n)) c.points

-- some callback of the text does so
abbrev pub is_started_within : Graph → ℕ → Bool
is_started_within g n = list_any (is_started_in g n) g.callbacks

-- the system or some callback of the text starts it
abbrev pub is_started : Graph → ℕ → Bool
is_started g n = is_started_alone (place_at g n) || is_started_within g n
