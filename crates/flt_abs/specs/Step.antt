-- What an instruction makes of a state, and where it leads. Numbers aren't traced.
use Rattle.std.specs.Prelude.{◌≡◌, ℕ, List, ◌++◌, [], ◌∷◌, if◌then◌else◌, Option, Some, None, Result, Ok, Err, IsTrue}
use Rattle.flt_rules.specs.Held.{held, holds_lock, without_last}
use Rattle.flt_rules.specs.Table.{row}
use Rattle.flt_rules.specs.declared.call.LockNumber.{LockNumber}
use Rattle.flt_rules.specs.declared.columns.Change.{Change}
use Rattle.flt_rules.specs.declared.columns.Change.TheVariants as becomes
use Rattle.flt_rules.specs.declared.columns.Effects.{Effects}
use Rattle.flt_rules.specs.declared.columns.LockChange.{LockChange}
use Rattle.flt_rules.specs.declared.columns.LockChange.TheVariants as list
use Rattle.flt_rules.specs.declared.held.HeldLock.{HeldLock}
use Rattle.flt_rules.specs.declared.rule.Rule.{Rule}
use Rattle.flt_tree.specs.declared.filter.Action.{Action}
use Rattle.flt_tree.specs.declared.filter.Action.TheVariants as action
use Rattle.flt_tree.specs.declared.filter.Test.{Test}
use Rattle.flt_tree.specs.declared.filter.Test.TheVariants as test
use Rattle.flt_tree.specs.declared.variable.ContextVariable.{ContextVariable}
use Rattle.flt_tree.specs.declared.variable.OperationVariable.{OperationVariable}
use Rattle.flt_tree.specs.declared.variable.OperationVariable.TheVariants.{Removed}
use Rattle.flt_graph.specs.Graph.{instruction_at}
use Rattle.flt_graph.specs.Instruction.{roles}
use Rattle.flt_graph.specs.declared.graph.Graph.{Graph}
use Rattle.flt_graph.specs.declared.instruction.Instruction.{Instruction}
use Rattle.flt_graph.specs.declared.instruction.Instruction.TheVariants as instruction
use Rattle.flt_graph.specs.declared.instruction.Invocation.{Invocation}
use Rattle.flt_abs.specs.Breaks.{first_broken}
use Rattle.flt_abs.specs.Sets.{StatusSet, null_alone, held_alone, stale_alone, null_or_held, without_null}
use Rattle.flt_abs.specs.Sets.{is_possible, irp_alone, fast_alone, no_alone, yes_alone}
use Rattle.flt_abs.specs.Setting.{setting_of}
use Rattle.flt_abs.specs.State.{State, is_below}
use Rattle.flt_abs.specs.Variables.{context_in, operation_in, with_context, with_operation}
use Rattle.flt_abs.specs.declared.setting.Setting.{Setting}
use Rattle.flt_abs.specs.declared.step.Successor.{Successor}
use Rattle.flt_abs.specs.declared.step.Successors.{Successors}

-- ---- calls

-- what a change leaves; none where it changes nothing
abbrev pub changed : Change → Option StatusSet
changed becomes.Stays = None
changed becomes.Null = Some null_alone
changed becomes.Held = Some held_alone
changed becomes.Stale = Some stale_alone
changed becomes.NullOrHeld = Some null_or_held

abbrev pub set_context : Option ContextVariable → Option StatusSet → State → State
set_context (Some c) (Some s) x = with_context x c s
set_context _ _ x = x

abbrev pub set_operation : Option OperationVariable → Option StatusSet → State → State
set_operation (Some d) (Some s) x = with_operation x d s
set_operation _ _ x = x

-- a lock that is held already isn't added again
abbrev pub changed_locks : List HeldLock → LockNumber → LockChange → List HeldLock
changed_locks locks l list.Stays = locks
changed_locks locks l (list.Taken access) = if holds_lock l locks then locks else locks ++ held l access ∷ []
changed_locks locks l list.Released = without_last l locks

abbrev pub set_locks : Option LockNumber → LockChange → State → State
set_locks (Some l) change x = record x { locks = changed_locks x.locks l change }
set_locks None change x = x

abbrev pub change_context : Invocation → Effects → State → State
change_context c e = set_context c.context (changed e.context)

abbrev pub change_output : Invocation → Effects → State → State
change_output c e = set_context c.output (changed e.output)

abbrev pub change_operation : Invocation → Effects → State → State
change_operation c e = set_operation c.operation (changed e.operation)

abbrev pub change_locks : Invocation → Effects → State → State
change_locks c e = set_locks c.lock e.lock

abbrev pub after_call : Invocation → Effects → State → State
after_call c e x = change_locks c e (change_operation c e (change_output c e (change_context c e x)))

-- ---- other instructions

abbrev pub after_action : State → Action → State
after_action x (action.ClearContext c) = with_context x c null_alone
after_action x (action.ClearOperation o) = with_operation x (Removed o) null_alone
after_action x _ = x

-- a state, unless its set of this variable is empty
abbrev pub if_possible : StatusSet → State → Option State
if_possible s x = if is_possible s then Some x else None

-- the state in which a test holds, if it can
abbrev pub where_true : State → Test → Option State
where_true x (test.ContextIsSome c) = let some = without_null (context_in x c) in if_possible some (with_context x c some)
where_true x (test.OperationIsSome o) =
    let some = without_null (operation_in x (Removed o)) in if_possible some (with_operation x (Removed o) some)
where_true x test.IsIrp = if x.modes.irp then Some (record x { modes = irp_alone }) else None
where_true x test.IsDraining = if x.draining.yes then Some (record x { draining = yes_alone }) else None
where_true x _ = Some x

-- the state in which it doesn't, if it can fail
abbrev pub where_false : State → Test → Option State
where_false x (test.ContextIsSome c) = if (context_in x c).null then Some (with_context x c null_alone) else None
where_false x (test.OperationIsSome o) = if (operation_in x (Removed o)).null then Some (with_operation x (Removed o) null_alone) else None
where_false x test.IsIrp = if x.modes.fast then Some (record x { modes = fast_alone }) else None
where_false x test.IsDraining = if x.draining.no then Some (record x { draining = no_alone }) else None
where_false x _ = Some x

-- ---- where an instruction leads

abbrev pub at : ℕ → Option State → Option Successor
at p (Some x) = Some (record { point = p; state = x })
at p None = None

abbrev pub after_failure : State → Invocation → Option Effects → ℕ → Option Successor
after_failure x c (Some e) p = Some (record { point = p; state = after_call c e x })
after_failure x c None p = None

-- the side on which the call succeeds, then the one on which it fails, if it can
abbrev pub call_successors : State → Invocation → ℕ → ℕ → Successors
call_successors x c granted failed = record {
  first = Some (record { point = granted; state = after_call c (row c.call).on_ok x });
  second = after_failure x c (row c.call).on_fail failed;
}

abbrev pub leads_to : State → Instruction → Successors
leads_to x (instruction.Act a next) = record { first = at next (Some (after_action x a)); second = None }
leads_to x (instruction.Call c granted failed) = call_successors x (roles c) granted failed
leads_to x (instruction.Test t yes' no') = record { first = at yes' (where_true x t); second = at no' (where_false x t) }
leads_to x (instruction.Repeat turns body next) = record { first = at body (Some x); second = at next (Some x) }
leads_to x (instruction.Return st) = record { first = None; second = None }
leads_to x instruction.End = record { first = None; second = None }

-- the least rule that the point breaks, or where it leads
abbrev pub unless_broken : Option Rule → Successors → Result Successors Rule
unless_broken (Some r) next = Err r
unless_broken None next = Ok next

abbrev pub outcome : Setting → State → Instruction → Result Successors Rule
outcome s x i = unless_broken (first_broken s x i) (leads_to x i)

abbrev pub transfer : Graph → ℕ → ℕ → State → Result Successors Rule
transfer g callback point x = outcome (setting_of g callback x) x (instruction_at g callback point)

-- ---- the order of where it leads

-- a successor is there on the second side too, at the same point and with a state above
abbrev pub IsSuccessorBelow : Option Successor → Option Successor → Type 0
IsSuccessorBelow (Some a) (Some b) = (a.point ≡ b.point) × IsTrue (is_below a.state b.state)
IsSuccessorBelow (Some a) None = ⊥
IsSuccessorBelow None b = Unit {0}

-- each successor has one above it
pub record AreBelow (a b : Successors) : Type 0 where
  pub first : IsSuccessorBelow a.first b.first
  pub second : IsSuccessorBelow a.second b.second

-- what breaks no rule is below what has successors above its own; all is below what breaks one
abbrev pub IsOutcomeBelow : Result Successors Rule → Result Successors Rule → Type 0
IsOutcomeBelow (Ok a) (Ok b) = AreBelow a b
IsOutcomeBelow (Err r) (Ok b) = ⊥
IsOutcomeBelow a (Err r) = Unit {0}
