-- W07: after the last operation. An operation that isn't completed keeps the instance that it came through.
-- In `canceled` and in the routine of a deferred work item nothing else keeps it: once the callback holds no operation,
-- the instance may be torn down. This project's own check, by the certificate.
use Rattle.std.specs.Prelude.{Bool, true, false, not, ◌&&◌, if◌then◌else◌, Option, Some, None}
use Rattle.std.specs.List.{list_any}
use Rattle.flt_rules.specs.declared.call.Call.{Call}
use Rattle.flt_rules.specs.declared.call.Call.TheVariants as call
use Rattle.flt_rules.specs.declared.place.Place.{Place}
use Rattle.flt_rules.specs.declared.place.Place.TheVariants as place
use Rattle.flt_graph.specs.Graph.{instruction_at, place_at}
use Rattle.flt_graph.specs.Instruction.{roles}
use Rattle.flt_graph.specs.declared.graph.Graph.{Graph}
use Rattle.flt_graph.specs.declared.instruction.Instruction.{Instruction}
use Rattle.flt_graph.specs.declared.instruction.Instruction.TheVariants as instruction
use Rattle.flt_abs.specs.Sets.{is_held}
use Rattle.flt_abs.specs.State.{State}
use Rattle.flt_cert.specs.Format.{Certificate}
use Rattle.flt_check.specs.Covering.{state_at}
use Rattle.flt_explain_warnings.specs.declared.warning.Site.{Site}
use Rattle.flt_explain_warnings.specs.declared.warning.Warning.{Warning}
use Rattle.flt_explain_warnings.specs.declared.warning.Warning.TheVariants.{CalledLate}

-- in a callback at this place only an operation keeps the instance. A pre or a post callback runs for the filter manager, which keeps it,
-- and a generic work item keeps it until its routine ends
abbrev pub is_kept_by_operations : Place → Bool
is_kept_by_operations place.Canceled = true
is_kept_by_operations place.DeferredPre = true
is_kept_by_operations place.DeferredPost = true
is_kept_by_operations _ = false

-- the call is given the instance: to get, set or delete a context, or to queue a work item that keeps it
abbrev pub needs_instance : Call → Bool
needs_instance (call.GetContext a) = true
needs_instance (call.SetContext a e) = true
needs_instance (call.DeleteContextOf a) = true
needs_instance call.QueueGenericWorkItem = true
needs_instance _ = false

-- the same of an instruction
abbrev pub asks_instance : Instruction → Bool
asks_instance (instruction.Call c granted refused) = needs_instance (roles c).call
asks_instance _ = false

-- some operation is surely held
abbrev pub holds_operation : State → Bool
holds_operation x = list_any is_held x.operations

-- there is a state, and in it no operation is surely held
abbrev pub holds_none : Option State → Bool
holds_none (Some x) = not (holds_operation x)
holds_none None = false

-- the point is in such a callback and makes such a call
abbrev pub asks_at : Graph → Site → Bool
asks_at g s = is_kept_by_operations (place_at g s.callback) && asks_instance (instruction_at g s.callback s.point)

-- the warning: the point is reached and makes such a call, where no operation is surely held any more
abbrev pub called_late : Graph → Certificate → Site → Option Warning
called_late g k s = if asks_at g s && holds_none (state_at k s.callback s.point) then Some (CalledLate s) else None
