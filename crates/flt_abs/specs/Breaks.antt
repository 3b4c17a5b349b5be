-- Which rules an instruction breaks in a state: the call table, the table of statuses and the rules of the other
-- statements, read on what may be so. Source: the driver kit's pages on each call and on the callback statuses; where
-- they leave a choice the rule is this project's own.
use Rattle.std.specs.Prelude.{Bool, true, false, not, ◌&&◌, ◌||◌, List, [], ◌∷◌, Option, Some, None, find, slice_set, take, is_none}
use Rattle.std.specs.List.{list_any}
use Rattle.flt_rules.specs.Call.{is_legal_in_draining}
use Rattle.flt_rules.specs.Columns.{has_place}
use Rattle.flt_rules.specs.Held.{holds_lock, is_latest}
use Rattle.flt_rules.specs.Place.{is_above, answers, fits_stage, is_pre_create}
use Rattle.flt_rules.specs.Status as statuses
use Rattle.flt_rules.specs.Status.{status_row, is_complete, is_with_callback}
use Rattle.flt_rules.specs.Table.{row}
use Rattle.flt_rules.specs.declared.call.LockNumber.{LockNumber}
use Rattle.flt_rules.specs.declared.columns.LockNeed.{LockNeed}
use Rattle.flt_rules.specs.declared.columns.LockNeed.TheVariants as lock
use Rattle.flt_rules.specs.declared.columns.Need.{Need}
use Rattle.flt_rules.specs.declared.columns.Need.TheVariants as need
use Rattle.flt_rules.specs.declared.columns.Row.{Row}
use Rattle.flt_rules.specs.declared.held.HeldLock.{HeldLock}
use Rattle.flt_rules.specs.declared.place.Mode.{Mode}
use Rattle.flt_rules.specs.declared.place.Mode.TheVariants.{Irp, Fast}
use Rattle.flt_rules.specs.declared.place.Place.{Place}
use Rattle.flt_rules.specs.declared.place.Place.TheVariants as place
use Rattle.flt_rules.specs.declared.rule.Rule.{Rule}
use Rattle.flt_rules.specs.declared.rule.Rule.TheVariants.{R01, R02, R03, R04, R05, R06, R07, R08, R09, R10, R11, R13, R15}
use Rattle.flt_rules.specs.declared.status.Possession.{Possession}
use Rattle.flt_rules.specs.declared.status.StatusRow.{StatusRow}
use Rattle.flt_tree.specs.Filter.{word_of, completes_pending, named_context}
use Rattle.flt_tree.specs.Variable.{context_place}
use Rattle.flt_tree.specs.declared.filter.Action.{Action}
use Rattle.flt_tree.specs.declared.filter.Action.TheVariants as action
use Rattle.flt_tree.specs.declared.filter.Status.{Status}
use Rattle.flt_tree.specs.declared.filter.Test.{Test}
use Rattle.flt_tree.specs.declared.filter.Test.TheVariants as test
use Rattle.flt_tree.specs.declared.variable.ContextVariable.{ContextVariable}
use Rattle.flt_tree.specs.declared.variable.OperationVariable.{OperationVariable}
use Rattle.flt_tree.specs.declared.variable.OperationVariable.TheVariants.{Removed, Data}
use Rattle.flt_graph.specs.Instruction.{roles}
use Rattle.flt_graph.specs.declared.instruction.Instruction.{Instruction}
use Rattle.flt_graph.specs.declared.instruction.Instruction.TheVariants as instruction
use Rattle.flt_graph.specs.declared.instruction.Invocation.{Invocation}
use Rattle.flt_abs.specs.Sets.{StatusSet, ModeSet, null_alone, is_held, is_stale}
use Rattle.flt_abs.specs.State.{State}
use Rattle.flt_abs.specs.Variables.{context_in, operation_in}
use Rattle.flt_abs.specs.declared.setting.Setting.{Setting}

abbrev pub is_empty : List HeldLock → Bool
is_empty [] = true
is_empty (x ∷ xs) = false

-- ---- operands: what isn't named breaks nothing

-- a context that isn't surely held
abbrev pub lacks_context : State → Option ContextVariable → Bool
lacks_context x (Some c) = not (is_held (context_in x c))
lacks_context x None = false

abbrev pub lacks_operation : State → Option OperationVariable → Bool
lacks_operation x (Some d) = not (is_held (operation_in x d))
lacks_operation x None = false

-- a variable that may be held
abbrev pub may_hold_context : State → Option ContextVariable → Bool
may_hold_context x (Some c) = (context_in x c).held
may_hold_context x None = false

abbrev pub may_hold_operation : State → Option OperationVariable → Bool
may_hold_operation x (Some d) = (operation_in x d).held
may_hold_operation x None = false

-- surely of the mode
abbrev pub is_mode_alone : ModeSet → Mode → Bool
is_mode_alone s Irp = s.irp && not s.fast
is_mode_alone s Fast = s.fast && not s.irp

-- ---- statements that neither call nor branch, and tests

abbrev pub action_breaks : State → Action → Rule → Bool
action_breaks x (action.ReadValue n c) R01 = lacks_context x (Some c)
action_breaks x (action.WriteValue c a) R01 = lacks_context x (Some c)
action_breaks x (action.ClearContext c) R03 = may_hold_context x (Some c)
action_breaks x (action.ClearOperation o) R03 = may_hold_operation x (Some (Removed o))
action_breaks x (action.ReadFile n d) R04 = lacks_operation x (Some d)
action_breaks x _ _ = false

abbrev pub is_post : Place → Bool
is_post (place.Post o) = true
is_post _ = false

abbrev pub test_breaks : Setting → State → Test → Rule → Bool
test_breaks s x test.IsIrp R04 = lacks_operation x (Some Data)
test_breaks s x test.IsDraining R08 = not (is_post s.place)
test_breaks s x _ _ = false

-- ---- statuses that a call hands on

-- the given operation, in the callback of a cancelled queue entry
abbrev pub is_given_in_canceled : Place → Option OperationVariable → Bool
is_given_in_canceled place.Canceled (Some Data) = true
is_given_in_canceled _ _ = false

-- in that callback COMPLETE alone may be handed on, and WITH_CALLBACK where every operation has its post callback
abbrev pub is_handed_legally : Setting → Invocation → Status → Bool
is_handed_legally s c st =
    (status_row (word_of st)).handed && not (completes_pending st)
    && (not (is_given_in_canceled s.place c.operation) || is_complete (word_of st))
    && (s.all_registered || not (is_with_callback (word_of st)))

abbrev pub hands_by : Setting → Invocation → Option Status → Bool
hands_by s c (Some st) = not (is_handed_legally s c st)
hands_by s c None = false

abbrev pub hands_illegally : Setting → Invocation → Bool
hands_illegally s c = hands_by s c c.status

-- ---- calls

abbrev pub is_need_held : Need → Bool
is_need_held need.Held = true
is_need_held _ = false

abbrev pub is_need_handed_over : Need → Bool
is_need_handed_over need.HandedOver = true
is_need_handed_over _ = false

abbrev pub is_need_output : Need → Bool
is_need_output need.Output = true
is_need_output _ = false

abbrev pub is_need_latest : LockNeed → Bool
is_need_latest lock.Latest = true
is_need_latest _ = false

abbrev pub is_need_not_held : LockNeed → Bool
is_need_not_held lock.NotHeld = true
is_need_not_held _ = false

abbrev pub releases_wrong_lock : State → Option LockNumber → Bool
releases_wrong_lock x (Some l) = not (is_latest l x.locks)
releases_wrong_lock x None = false

abbrev pub takes_held_lock : State → Option LockNumber → Bool
takes_held_lock x (Some l) = holds_lock l x.locks
takes_held_lock x None = false

-- a call, by its row of the call table
abbrev pub row_breaks : Row → Setting → State → Invocation → Rule → Bool
row_breaks r s x c R01 = is_need_held r.needs.context && lacks_context x c.context
row_breaks r s x c R03 =
    (is_need_output r.needs.output && may_hold_context x c.output) || (is_need_output r.needs.operation && may_hold_operation x c.operation)
row_breaks r s x c R04 = is_need_held r.needs.operation && lacks_operation x c.operation
row_breaks r s x c R06 = (r.needs.irp && not (is_mode_alone x.modes Irp)) || (r.needs.status && hands_illegally s c)
row_breaks r s x c R07 = is_above s.level r.greatest
row_breaks r s x c R08 = not (has_place r.places s.place) || (x.draining.yes && not (is_legal_in_draining c.call))
row_breaks r s x c R09 = is_need_latest r.needs.lock && releases_wrong_lock x c.lock
row_breaks r s x c R11 = is_need_not_held r.needs.lock && takes_held_lock x c.lock
row_breaks r s x c R13 = is_need_handed_over r.needs.context && lacks_context x c.context
row_breaks r s x c _ = false

abbrev pub call_breaks : Setting → State → Invocation → Rule → Bool
call_breaks s x c = row_breaks (row c.call) s x c

-- ---- returns and ends

-- surely held, or surely given away, as a row asks
abbrev pub is_possessed : StatusSet → Possession → Bool
is_possessed s = statuses.is_possessed (is_held s) (is_stale s)

-- surely of the mode that a row asks for
abbrev pub is_of_mode : ModeSet → Option Mode → Bool
is_of_mode s = statuses.is_of_mode (is_mode_alone s)

-- a callback may return the status of a row at all
abbrev pub fits_setting : StatusRow → Setting → Bool
fits_setting r s = fits_stage s.place r.stage && (s.registered || not r.needs_post) && (r.in_create || not (is_pre_create s.place))

-- the operation is surely as the row asks
abbrev pub fits_state : StatusRow → State → Bool
fits_state r x = is_possessed (operation_in x Data) r.data && is_of_mode x.modes r.mode && (r.in_draining || not x.draining.yes)

-- a returned status, by its row of the table of statuses
abbrev pub is_returned_legally : Setting → State → Status → Bool
is_returned_legally s x st =
    fits_setting (status_row (word_of st)) s && fits_state (status_row (word_of st)) x && not (completes_pending st)

abbrev pub returns_illegally : Setting → State → Option Status → Bool
returns_illegally s x (Some st) = not (is_returned_legally s x st)
returns_illegally s x None = false

-- the variables but the one that goes with the status
abbrev pub contexts_without : List StatusSet → Option ContextVariable → List StatusSet
contexts_without sets (Some c) = slice_set sets (context_place c) null_alone
contexts_without sets None = sets

abbrev pub is_any_held : List StatusSet → Bool
is_any_held = list_any (λ (s : StatusSet). s.held)

-- a context may be held that goes nowhere
abbrev pub keeps_context : State → Option ContextVariable → Bool
keeps_context x named = is_any_held (contexts_without x.contexts named)

-- the callbacks that must complete the operation that they were given
abbrev pub owes_data : Place → Bool
owes_data place.Canceled = true
owes_data place.DeferredPre = true
owes_data place.DeferredPost = true
owes_data _ = false

abbrev pub keeps_operation : Setting → State → Bool
keeps_operation s x =
    is_any_held (take 4 x.operations) || (owes_data s.place && may_hold_operation x (Some Data))

abbrev pub return_breaks : Setting → State → Option Status → Rule → Bool
return_breaks s x st R02 = keeps_context x (named_context st)
return_breaks s x st R05 = keeps_operation s x
return_breaks s x st R06 = returns_illegally s x st
return_breaks s x st R10 = not (is_empty x.locks)
return_breaks s x st R13 = lacks_context x (named_context st)
return_breaks s x st R15 = is_none st && answers s.place
return_breaks s x st _ = false

-- ---- instructions

abbrev pub breaks : Setting → State → Instruction → Rule → Bool
breaks s x (instruction.Act a next) r = action_breaks x a r
breaks s x (instruction.Call c granted failed) r = call_breaks s x (roles c) r
breaks s x (instruction.Test t granted failed) r = test_breaks s x t r
breaks s x (instruction.Repeat turns body next) r = false
breaks s x (instruction.Return st) r = return_breaks s x st r
breaks s x instruction.End r = return_breaks s x None r

-- the rules that an instruction can break, in their order; R12 and R14 are about where it leads
abbrev pub rules : List Rule
rules = R01 ∷ R02 ∷ R03 ∷ R04 ∷ R05 ∷ R06 ∷ R07 ∷ R08 ∷ R09 ∷ R10 ∷ R11 ∷ R13 ∷ R15 ∷ []

-- the least rule that is broken
abbrev pub first_broken : Setting → State → Instruction → Option Rule
first_broken s x i = find (breaks s x i) rules
