-- Calls above their level (R07): which level they allow, which one is possible, and what raises it. This project's own program.
use Rattle.std.specs.Prelude.{Bool, true, false, if◌then◌else◌, List, [], ◌∷◌, ◌++◌, codes, Option, Some, None, option_and_then, option_map}
use Rattle.std.specs.List.{concat, find}
use Rattle.flt_rules.specs.Place.{entry_level, greater_level, is_above, raised_by, raised_level}
use Rattle.flt_rules.specs.Table.{row}
use Rattle.flt_rules.specs.declared.call.LockKind.{LockKind}
use Rattle.flt_rules.specs.declared.call.LockNumber.{LockNumber}
use Rattle.flt_rules.specs.declared.held.HeldLock.{HeldLock}
use Rattle.flt_rules.specs.declared.place.Level.{Level}
use Rattle.flt_rules.specs.declared.place.Level.TheVariants.{Apc}
use Rattle.flt_tree.specs.Names.{Text}
use Rattle.flt_abs.specs.State.{State}
use Rattle.flt_graph.specs.declared.instruction.Invocation.{Invocation}
use Rattle.flt_explain_advice.specs.Case.{Circumstances, call_in, head, instruction, lock_kind, lock_name, place, state}
use Rattle.flt_explain_texts.specs.Names.{call_name, kind_name, level_name}
use Rattle.flt_explain_texts.specs.Page.{marked, quoted}
use Rattle.flt_explain_advice.specs.declared.advice.levels.RaisingLock.{RaisingLock}

-- ---- what is known

abbrev pub name_of : Option Invocation → Text
name_of (Some c) = call_name c.call
name_of None = codes "this call"

abbrev pub greatest_of : Option Invocation → Level
greatest_of (Some c) = (row c.call).greatest
greatest_of None = Apc

-- the greatest level that the call allows
abbrev pub greatest : Circumstances → Level
greatest x = greatest_of (call_in (instruction x))

-- a lock of a kind, if it raises the level above another
abbrev pub raiser_of : Level → LockNumber → Option LockKind → Option RaisingLock
raiser_of above l None = None
raiser_of above l (Some kind) = if is_above (raised_level kind) above then Some (record { lock = l; kind = kind }) else None

-- the first one if there is one, else the other
abbrev pub first_or : Option RaisingLock → Option RaisingLock → Option RaisingLock
first_or (Some r) other = Some r
first_or None other = other

-- the first of some locks that raises the level above another
unfoldable pub first_raiser : Circumstances → Level → List HeldLock → Option RaisingLock
first_raiser x above [] = None
first_raiser x above (h ∷ locks) = first_or (raiser_of above h.lock (lock_kind x h.lock)) (first_raiser x above locks)

abbrev pub raiser_in : Circumstances → Level → Option State → Option RaisingLock
raiser_in x above None = None
raiser_in x above (Some s) = first_raiser x above s.locks

-- the first lock that raises the level above that which the call allows, where that is known
unfoldable pub raiser : Circumstances → Option RaisingLock
raiser x = raiser_in x (greatest x) (state x)

abbrev pub level_with : Option RaisingLock → Level → Level
level_with (Some r) own = greater_level (raised_level r.kind) own
level_with None own = own

-- the level that is possible at the call
unfoldable pub level : Circumstances → Level
level x = level_with (raiser x) (entry_level (place x))

-- ---- title

-- that a level is possible, where it is above the greatest that is allowed
abbrev pub excess : Level → Level → Text
excess above possible = if is_above possible above then codes ", and this might run at " ++ level_name possible else []

-- which level a call needs
unfoldable pub need : Text → Level → Text
need name greatest = concat (marked name ∷ codes " needs " ∷ level_name greatest ∷ codes " or below" ∷ [])

unfoldable pub title : Circumstances → Text
title x = need (name_of (call_in (instruction x))) (greatest x) ++ excess (greatest x) (level x)

-- ---- help

-- that a lock raises the level
unfoldable pub lock_help : Circumstances → RaisingLock → Text
lock_help x r =
    concat (quoted (lock_name x r.lock) ∷ codes " is " ∷ kind_name r.kind ∷ codes ", which raises the level to "
    ∷ level_name (raised_level r.kind) ∷ codes ": make the call before it is taken, or after its release" ∷ [])

-- that the callback itself might run at a level: it is a `post` callback, since no other runs above APC_LEVEL
unfoldable pub callback_help : Circumstances → Level → Text
callback_help x l =
    concat (codes "`post` callbacks such as " ∷ quoted (head x) ∷ codes " might run at " ∷ level_name l
    ∷ codes ": make the call in its `pre` callback and hand the context over, or in the routine of a deferred work item" ∷ [])

abbrev pub raiser_help : Circumstances → Option RaisingLock → Text
raiser_help x (Some r) = lock_help x r
raiser_help x None =
    codes "a spin lock that is held raises the level to DISPATCH_LEVEL: make the call before it is taken, or after its release"

unfoldable pub help : Circumstances → Text
help x =
    if is_above (entry_level (place x)) (greatest x) then callback_help x (entry_level (place x)) else raiser_help x (raiser x)
