-- W02: handed to the system while a lock is held. FltCompletePendedPreOperation, FltCompletePendedPostOperation and FltCbdqInsertIo may run
-- other callbacks of the filter before they return, and these may ask for the lock. This project's own check.
use Rattle.std.specs.Prelude.{Bool, true, false, if◌then◌else◌, List, [], ◌∷◌, Option, Some, None, option_map}
use Rattle.flt_rules.specs.declared.call.Call.{Call}
use Rattle.flt_rules.specs.declared.call.Call.TheVariants as call
use Rattle.flt_rules.specs.declared.call.LockNumber.{LockNumber}
use Rattle.flt_rules.specs.declared.held.HeldLock.{HeldLock}
use Rattle.flt_graph.specs.Graph.{instruction_at}
use Rattle.flt_graph.specs.Instruction.{roles}
use Rattle.flt_graph.specs.declared.graph.Graph.{Graph}
use Rattle.flt_graph.specs.declared.instruction.Instruction.{Instruction}
use Rattle.flt_graph.specs.declared.instruction.Instruction.TheVariants as instruction
use Rattle.flt_abs.specs.State.{State}
use Rattle.flt_cert.specs.Format.{Certificate}
use Rattle.flt_check.specs.Covering.{state_at}
use Rattle.flt_explain_warnings.specs.declared.warning.Site.{Site}
use Rattle.flt_explain_warnings.specs.declared.warning.Warning.{Warning}
use Rattle.flt_explain_warnings.specs.declared.warning.Warning.TheVariants.{CalledLocked}

-- the system may run other code of the filter before the call returns
abbrev pub gives_away : Call → Bool
gives_away call.InsertIo = true
gives_away (call.CompletePendedPreOperation whose) = true
gives_away call.CompletePendedPostOperation = true
gives_away _ = false

-- the lock that was taken last
abbrev pub latest : List HeldLock → Option LockNumber
latest [] = None
latest (h ∷ []) = Some h.lock
latest (h ∷ k ∷ locks) = latest (k ∷ locks)

-- the lock that was taken last of those that such a call is made under
abbrev pub locked_in : Instruction → List HeldLock → Option LockNumber
locked_in (instruction.Call c granted refused) locks = if gives_away (roles c).call then latest locks else None
locked_in _ locks = None

-- the same in a state, if the point is reached
abbrev pub locked_by : Instruction → Option State → Option LockNumber
locked_by i None = None
locked_by i (Some x) = locked_in i x.locks

-- the same at a point
abbrev pub locked_at : Graph → Certificate → Site → Option LockNumber
locked_at g k s = locked_by (instruction_at g s.callback s.point) (state_at k s.callback s.point)

-- the warning: the call is made at the point while the lock is held
abbrev pub called_locked : Graph → Certificate → Site → Option Warning
called_locked g k s = option_map (λ (l : LockNumber). CalledLocked s l) (locked_at g k s)
