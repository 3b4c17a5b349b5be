-- What an instruction makes of a situation, by its outcome: that a call succeeds, that a test holds, that a turn is left.
-- Numbers aren't traced, so a test of numbers may come out either way. Read from the call table; this project's own.
use Rattle.std.specs.Prelude.{◌≡◌, ℕ, Bool, true, false, not, Option, Some, None, slice_index_or, slice_set}
use Rattle.flt_rules.specs.Place.{is_irp}
use Rattle.flt_rules.specs.Table.{row}
use Rattle.flt_rules.specs.declared.call.LockNumber.{LockNumber}
use Rattle.flt_rules.specs.declared.columns.Change.{Change}
use Rattle.flt_rules.specs.declared.columns.Change.TheVariants as becomes
use Rattle.flt_rules.specs.declared.columns.Effects.{Effects}
use Rattle.flt_rules.specs.declared.columns.LockChange.{LockChange}
use Rattle.flt_tree.specs.Variable.{context_place, operation_place}
use Rattle.flt_tree.specs.declared.filter.Action.{Action}
use Rattle.flt_tree.specs.declared.filter.Action.TheVariants as action
use Rattle.flt_tree.specs.declared.filter.Test.{Test}
use Rattle.flt_tree.specs.declared.filter.Test.TheVariants as test
use Rattle.flt_tree.specs.declared.variable.ContextVariable.{ContextVariable}
use Rattle.flt_tree.specs.declared.variable.OperationVariable.{OperationVariable}
use Rattle.flt_tree.specs.declared.variable.OperationVariable.TheVariants.{Removed}
use Rattle.flt_graph.specs.Instruction.{roles}
use Rattle.flt_graph.specs.declared.instruction.Instruction.{Instruction}
use Rattle.flt_graph.specs.declared.instruction.Instruction.TheVariants as instruction
use Rattle.flt_graph.specs.declared.instruction.Invocation.{Invocation}
use Rattle.flt_abs.specs.State.{Status, Null, Held, Stale, Situation, Means}
use Rattle.flt_abs.specs.Step.{changed_locks}
use Rattle.flt_abs.specs.declared.step.Successor.{Successor}
use Rattle.flt_abs.specs.declared.step.Successors.{Successors}

-- ---- variables

-- what is so of a variable
abbrev pub context_now : Situation → ContextVariable → Status
context_now t c = slice_index_or t.contexts (context_place c) Null

abbrev pub operation_now : Situation → OperationVariable → Status
operation_now t d = slice_index_or t.operations (operation_place d) Null

-- the situation in which a status is a variable's, where there are both
abbrev pub put_context : Option ContextVariable → Option Status → Situation → Situation
put_context (Some c) (Some x) t = record t { contexts = slice_set t.contexts (context_place c) x }
put_context _ _ t = t

abbrev pub put_operation : Option OperationVariable → Option Status → Situation → Situation
put_operation (Some d) (Some x) t = record t { operations = slice_set t.operations (operation_place d) x }
put_operation _ _ t = t

-- the situation in which the locks are as a change of one leaves them
abbrev pub put_locks : Option LockNumber → LockChange → Situation → Situation
put_locks (Some l) change t = record t { locks = changed_locks t.locks l change }
put_locks None change t = t

-- ---- calls

-- the status that a change leaves; a call that may give nothing did give something, or did not
abbrev pub left : Change → Bool → Option Status
left becomes.Stays gives = None
left becomes.Null gives = Some Null
left becomes.Held gives = Some Held
left becomes.Stale gives = Some Stale
left becomes.NullOrHeld true = Some Held
left becomes.NullOrHeld false = Some Null

-- the situation after a call that had these effects
abbrev pub called : Invocation → Effects → Bool → Situation → Situation
called c e gives t =
    put_locks c.lock e.lock (put_operation c.operation (left e.operation gives)
    (put_context c.output (left e.output gives) (put_context c.context (left e.context gives) t)))

-- the same where it failed, if it can
abbrev pub failed : Invocation → Option Effects → Bool → Situation → Situation
failed c (Some e) gives t = called c e gives t
failed c None gives t = t

-- whether a call can fail
abbrev pub can_fail : Option Effects → Bool
can_fail (Some e) = true
can_fail None = false

-- ---- other instructions

-- the situation after a statement that neither calls nor branches
abbrev pub acted : Action → Situation → Situation
acted (action.ClearContext c) t = put_context (Some c) (Some Null) t
acted (action.ClearOperation o) t = put_operation (Some (Removed o)) (Some Null) t
acted _ t = t

-- what the tests ask
abbrev pub is_null : Status → Bool
is_null Null = true
is_null Held = false
is_null Stale = false

-- what a test finds, by what it finds where it holds
abbrev pub agrees : Bool → Bool → Bool
agrees holds true = holds
agrees holds false = not holds

-- whether a test may come out so
abbrev pub may_find : Test → Situation → Bool → Bool
may_find (test.ContextIsSome c) t outcome = agrees (not (is_null (context_now t c))) outcome
may_find (test.OperationIsSome o) t outcome = agrees (not (is_null (operation_now t (Removed o)))) outcome
may_find test.IsIrp t outcome = agrees (is_irp t.mode) outcome
may_find test.IsDraining t outcome = agrees t.draining outcome
may_find _ t outcome = true

-- ---- where an instruction leads

-- whether an instruction may come out so; what neither calls nor branches comes out well, and an end not at all
abbrev pub may_come_out : Instruction → Situation → Bool → Bool
may_come_out (instruction.Act a next) t outcome = outcome
may_come_out (instruction.Call c granted refused) t true = true
may_come_out (instruction.Call c granted refused) t false = can_fail (row (roles c).call).on_fail
may_come_out (instruction.Test test granted refused) t outcome = may_find test t outcome
may_come_out (instruction.Repeat turns block next) t outcome = true
may_come_out (instruction.Return status) t outcome = false
may_come_out instruction.End t outcome = false

-- the situation that an instruction leaves
abbrev pub leaves : Instruction → Bool → Bool → Situation → Situation
leaves (instruction.Act a next) outcome gives t = acted a t
leaves (instruction.Call c granted refused) true gives t = called (roles c) (row (roles c).call).on_ok gives t
leaves (instruction.Call c granted refused) false gives t = failed (roles c) (row (roles c).call).on_fail gives t
leaves _ outcome gives t = t

-- the successor by an outcome
abbrev pub side : Successors → Bool → Option Successor
side next true = next.first
side next false = next.second

-- there is a successor, it is the point, and its state means the situation
abbrev pub Reaches : Option Successor → Option ℕ → Situation → Type 0
Reaches (Some s) p t = (Some s.point ≡ p) × Means s.state t
Reaches None p t = ⊥
