-- What a text has somewhere. This project's own definitions.
use Rattle.std.specs.Prelude.{Bool, true, false, not, ◌&&◌, is_some}
use Rattle.std.specs.List.{list_any}
use Rattle.flt_rules.specs.declared.call.Call.{Call}
use Rattle.flt_rules.specs.declared.call.Call.TheVariants as call
use Rattle.flt_rules.specs.declared.place.Place.{Place}
use Rattle.flt_rules.specs.declared.place.Place.TheVariants as place
use Rattle.flt_graph.specs.Instruction.{roles}
use Rattle.flt_graph.specs.declared.graph.CallbackGraph.{CallbackGraph}
use Rattle.flt_graph.specs.declared.graph.Graph.{Graph}
use Rattle.flt_graph.specs.declared.graph.Point.{Point}
use Rattle.flt_graph.specs.declared.instruction.Instruction.{Instruction}
use Rattle.flt_graph.specs.declared.instruction.Instruction.TheVariants as instruction
use Rattle.flt_cert.specs.Format.{Certificate}
use Rattle.flt_check.specs.Covering.{state_at}
use Rattle.flt_explain_warnings.specs.declared.warning.Site.{Site}

-- a point is reached, by a certificate
abbrev pub is_reached : Certificate → Site → Bool
is_reached k s = is_some (state_at k s.callback s.point)

-- a callback at this place is the routine of a work item: it runs only where a call queues one
abbrev pub is_routine : Place → Bool
is_routine place.DeferredPre = true
is_routine place.DeferredPost = true
is_routine place.Generic = true
is_routine _ = false

-- the call takes an operation out of the queue
abbrev pub is_removal : Call → Bool
is_removal call.RemoveNextIo = true
is_removal _ = false

-- the instruction takes an operation out of the queue
abbrev pub removes : Instruction → Bool
removes (instruction.Call c granted refused) = is_removal (roles c).call
removes _ = false

-- the same of a point
abbrev pub removes_at : Point → Bool
removes_at p = removes p.instruction

-- a callback takes operations out of the queue
abbrev pub removes_in : CallbackGraph → Bool
removes_in c = list_any removes_at c.points

-- some callback of the text does
abbrev pub removes_somewhere : Graph → Bool
removes_somewhere g = list_any removes_in g.callbacks

-- a callback does without being queued for it
abbrev pub removes_unasked : CallbackGraph → Bool
removes_unasked c = not (is_routine c.place) && removes_in c

-- some callback of the text does so
abbrev pub removes_outside : Graph → Bool
removes_outside g = list_any removes_unasked g.callbacks
