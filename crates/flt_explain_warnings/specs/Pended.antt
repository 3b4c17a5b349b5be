-- W03: pended and left in the queue. An operation that FltCbdqInsertIo took stays there until FltCbdqRemoveNextIo takes it out, or it is
-- cancelled. This project's own check, by the graph: it is a sign, and no proof that an operation is left.
use Rattle.std.specs.Prelude.{ℕ, Bool, true, false, not, ◌&&◌, if◌then◌else◌, Option, Some, None, option_map, option_and_then}
use Rattle.flt_rules.specs.declared.call.Call.{Call}
use Rattle.flt_rules.specs.declared.call.Call.TheVariants as call
use Rattle.flt_graph.specs.Graph.{instruction_at}
use Rattle.flt_graph.specs.Instruction.{roles}
use Rattle.flt_graph.specs.declared.graph.Graph.{Graph}
use Rattle.flt_graph.specs.declared.instruction.Instruction.{Instruction}
use Rattle.flt_graph.specs.declared.instruction.Instruction.TheVariants as instruction
use Rattle.flt_cert.specs.Format.{Certificate}
use Rattle.flt_explain_warnings.specs.Flow.{end_from}
use Rattle.flt_explain_warnings.specs.Reading.{is_reached, removes_somewhere, removes_outside}
use Rattle.flt_explain_warnings.specs.declared.trail.Trail.TheVariants.{Pended}
use Rattle.flt_explain_warnings.specs.declared.warning.Site.{Site}
use Rattle.flt_explain_warnings.specs.declared.warning.Warning.{Warning}
use Rattle.flt_explain_warnings.specs.declared.warning.Warning.TheVariants.{NeverRemoved, LeftPended}

-- the call puts an operation into the queue
abbrev pub is_insert : Call → Bool
is_insert call.InsertIo = true
is_insert _ = false

-- the point behind an insert that succeeds
abbrev pub inserted : Instruction → Option ℕ
inserted (instruction.Call c granted refused) = if is_insert (roles c).call then Some granted else None
inserted _ = None

-- the same of a point that is reached
abbrev pub inserted_at : Graph → Certificate → Site → Option ℕ
inserted_at g k s = if is_reached k s then inserted (instruction_at g s.callback s.point) else None

-- the warning: the point inserts, and no call of the text removes
abbrev pub never_removed_from : Graph → Site → ℕ → Option Warning
never_removed_from g s granted = if removes_somewhere g then None else Some (NeverRemoved s)

-- the same of a point
abbrev pub never_removed : Graph → Certificate → Site → Option Warning
never_removed g k s = option_and_then (never_removed_from g s) (inserted_at g k s)

-- the point behind an insert, where calls of the text remove, but only in routines of work items
abbrev pub awaiting_from : Graph → ℕ → Option ℕ
awaiting_from g granted = if removes_somewhere g && not (removes_outside g) then Some granted else None

-- the same of a point
abbrev pub awaiting : Graph → Certificate → Site → Option ℕ
awaiting g k s = option_and_then (awaiting_from g) (inserted_at g k s)

-- the first point that returns PENDING on a path on which no work item is queued that removes
abbrev pub left_at : Graph → Certificate → Site → Option ℕ
left_at g k s = option_and_then (end_from g s.callback Pended) (awaiting g k s)

-- the warning: PENDING is returned there after the insert
abbrev pub left_pended : Graph → Certificate → Site → Option Warning
left_pended g k s = option_map (LeftPended s) (left_at g k s)
