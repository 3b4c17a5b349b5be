-- W06: locks that no call names, and callbacks that nothing starts. The system starts pre callbacks by itself, and all others only where
-- a callback of the filter asks for them. This project's own check.
use Rattle.std.specs.Prelude.{ℕ, Bool, false, not, ◌==◌, ◌&&◌, nat_lt, if◌then◌else◌, List, [], ◌∷◌, length, Option, Some, None}
use Rattle.std.specs.List.{list_any}
use Rattle.flt_rules.specs.Call.{place_of}
use Rattle.flt_rules.specs.Held.{same_lock}
use Rattle.flt_rules.specs.declared.call.LockNumber.{LockNumber}
use Rattle.flt_rules.specs.declared.call.LockNumber.TheVariants.{L0, L1, L2, L3, L4, L5, L6, L7}
use Rattle.flt_graph.specs.Instruction.{roles}
use Rattle.flt_graph.specs.declared.graph.CallbackGraph.{CallbackGraph}
use Rattle.flt_graph.specs.declared.graph.Graph.{Graph}
use Rattle.flt_graph.specs.declared.graph.Point.{Point}
use Rattle.flt_graph.specs.declared.instruction.Instruction.{Instruction}
use Rattle.flt_graph.specs.declared.instruction.Instruction.TheVariants as instruction
use Rattle.flt_search_started.specs.Triggers.{is_started}
use Rattle.flt_explain_warnings.specs.declared.warning.Site.{Site}
use Rattle.flt_explain_warnings.specs.declared.warning.Warning.{Warning}
use Rattle.flt_explain_warnings.specs.declared.warning.Warning.TheVariants.{UnusedCallback, UnusedLock}

-- ---- locks

-- a lock is the one that is named
abbrev pub is_lock : Option LockNumber → LockNumber → Bool
is_lock (Some named) l = same_lock named l
is_lock None l = false

-- an instruction calls with the lock
abbrev pub names_lock : LockNumber → Instruction → Bool
names_lock l (instruction.Call c granted refused) = is_lock (roles c).lock l
names_lock l _ = false

-- some instruction of the callback does
abbrev pub names_lock_in : LockNumber → CallbackGraph → Bool
names_lock_in l c = list_any (λ (p : Point). names_lock l p.instruction) c.points

-- the lock is declared
abbrev pub is_declared : Graph → LockNumber → Bool
is_declared g l = nat_lt (place_of l) (length g.locks)

-- some call of the text names the lock
abbrev pub is_called : Graph → LockNumber → Bool
is_called g l = list_any (names_lock_in l) g.callbacks

-- the lock is declared, and no call names it
abbrev pub is_unused : Graph → LockNumber → Bool
is_unused g l = is_declared g l && not (is_called g l)

-- the warnings of those of some locks that no call names
abbrev pub unused_among : Graph → List LockNumber → List Warning
unused_among g [] = []
unused_among g (l ∷ ls) = if is_unused g l then UnusedLock l ∷ unused_among g ls else unused_among g ls

-- the same of all locks, in the order of their declaration
abbrev pub unused_locks : Graph → List Warning
unused_locks g = unused_among g (L0 ∷ L1 ∷ L2 ∷ L3 ∷ L4 ∷ L5 ∷ L6 ∷ L7 ∷ [])

-- ---- callbacks

-- the warning, at the first point of a callback: nothing starts it
abbrev pub unused_callback : Graph → Site → Option Warning
unused_callback g s = if (s.point == 0) && not (is_started g s.callback) then Some (UnusedCallback s.callback) else None
