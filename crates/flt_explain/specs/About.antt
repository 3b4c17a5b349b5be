-- Which operand of a point is to blame where it breaks a rule, read as `flt_abs` reads the rules. This project's own definitions.
use Rattle.std.specs.Prelude.{Bool, true, false, not, ◌==◌, ◌&&◌, Option, Some, None}
use Rattle.flt_rules.specs.Call.{is_legal_in_draining}
use Rattle.flt_rules.specs.Columns.{has_place}
use Rattle.flt_rules.specs.Held.{same_lock, holds_lock}
use Rattle.flt_rules.specs.Status.{status_row}
use Rattle.flt_rules.specs.Table.{row}
use Rattle.flt_rules.specs.declared.call.LockNumber.{LockNumber}
use Rattle.flt_rules.specs.declared.columns.Row.{Row}
use Rattle.flt_rules.specs.declared.place.Place.{Place}
use Rattle.flt_rules.specs.declared.rule.Rule.{Rule}
use Rattle.flt_rules.specs.declared.rule.Rule.TheVariants.{R01, R02, R03, R04, R05, R06, R08, R09, R10, R11, R13}
use Rattle.flt_rules.specs.declared.status.StatusRow.{StatusRow}
use Rattle.flt_tree.specs.Filter.{word_of, named_context}
use Rattle.flt_tree.specs.Variable.{context_place, operation_place}
use Rattle.flt_tree.specs.declared.filter.Action.{Action}
use Rattle.flt_tree.specs.declared.filter.Action.TheVariants as action
use Rattle.flt_tree.specs.declared.filter.Status.{Status}
use Rattle.flt_tree.specs.declared.filter.Test.{Test}
use Rattle.flt_tree.specs.declared.filter.Test.TheVariants as test
use Rattle.flt_tree.specs.declared.variable.ContextVariable.{ContextVariable}
use Rattle.flt_tree.specs.declared.variable.OperationVariable.{OperationVariable}
use Rattle.flt_tree.specs.declared.variable.OperationVariable.TheVariants.{Removed, Data}
use Rattle.flt_graph.specs.Instruction.{roles}
use Rattle.flt_graph.specs.declared.instruction.Instruction.{Instruction}
use Rattle.flt_graph.specs.declared.instruction.Instruction.TheVariants as instruction
use Rattle.flt_graph.specs.declared.instruction.Invocation.{Invocation}
use Rattle.flt_abs.specs.Breaks.{is_need_output, is_possessed, is_of_mode, owes_data}
use Rattle.flt_abs.specs.State.{State}
use Rattle.flt_abs.specs.Variables.{context_in, operation_in}
use Rattle.flt_explain.specs.declared.finding.Subject.{Subject}
use Rattle.flt_explain.specs.declared.finding.Subject.TheVariants as about

-- ---- operands

-- whether a variable is the one that is named
abbrev pub is_context : Option ContextVariable → ContextVariable → Bool
is_context (Some c) v = context_place c == context_place v
is_context None v = false

abbrev pub is_operation : Option OperationVariable → OperationVariable → Bool
is_operation (Some d) v = operation_place d == operation_place v
is_operation None v = false

abbrev pub is_lock : Option LockNumber → LockNumber → Bool
is_lock (Some l) m = same_lock l m
is_lock None m = false

-- ---- statements that neither call nor branch, and tests

abbrev pub is_action_about : Action → Subject → Bool
is_action_about (action.ReadValue n c) (about.Context v) = is_context (Some c) v
is_action_about (action.WriteValue c a) (about.Context v) = is_context (Some c) v
is_action_about (action.ClearContext c) (about.Context v) = is_context (Some c) v
is_action_about (action.ClearOperation o) (about.Operation v) = is_operation (Some (Removed o)) v
is_action_about (action.ReadFile n d) (about.Operation v) = is_operation (Some d) v
is_action_about _ _ = false

abbrev pub is_test_about : Test → Subject → Bool
is_test_about test.IsIrp (about.Operation v) = is_operation (Some Data) v
is_test_about test.IsDraining about.Draining = true
is_test_about _ _ = false

-- ---- calls

-- a variable that receives what the call gives, and may be held
abbrev pub is_overwritten_context : Row → State → Invocation → ContextVariable → Bool
is_overwritten_context r x c v = is_need_output r.needs.output && (is_context c.output v && (context_in x v).held)

abbrev pub is_overwritten_operation : Row → State → Invocation → OperationVariable → Bool
is_overwritten_operation r x c v = is_need_output r.needs.operation && (is_operation c.operation v && (operation_in x v).held)

-- a call, by its row of the call table
abbrev pub is_row_about : Row → Place → State → Invocation → Rule → Subject → Bool
is_row_about r place x c R01 (about.Context v) = is_context c.context v
is_row_about r place x c R03 (about.Context v) = is_overwritten_context r x c v
is_row_about r place x c R03 (about.Operation v) = is_overwritten_operation r x c v
is_row_about r place x c R04 (about.Operation v) = is_operation c.operation v
is_row_about r place x c R06 about.Mode = r.needs.irp && x.modes.fast
is_row_about r place x c R08 about.Draining = x.draining.yes && not (is_legal_in_draining c.call)
is_row_about r place x c R08 about.Call = not (has_place r.places place)
is_row_about r place x c R09 (about.Lock l) = is_lock c.lock l
is_row_about r place x c R11 (about.Lock l) = is_lock c.lock l
is_row_about r place x c R13 (about.Context v) = is_context c.context v
is_row_about r place x c _ _ = false

-- ---- returns and ends

-- a context that may be held, and goes nowhere
abbrev pub is_kept_context : State → Option ContextVariable → ContextVariable → Bool
is_kept_context x named v = not (is_context named v) && (context_in x v).held

-- an operation that may be held, and that nobody would complete
abbrev pub is_kept_operation : Place → State → OperationVariable → Bool
is_kept_operation place x (Removed o) = (operation_in x (Removed o)).held
is_kept_operation place x Data = owes_data place && (operation_in x Data).held

-- what of the state a status's row asks otherwise
abbrev pub is_status_about : StatusRow → State → Subject → Bool
is_status_about r x (about.Operation Data) = not (is_possessed (operation_in x Data) r.data)
is_status_about r x about.Mode = not (is_of_mode x.modes r.mode)
is_status_about r x about.Draining = not r.in_draining && x.draining.yes
is_status_about r x _ = false

abbrev pub is_returned_about : State → Option Status → Subject → Bool
is_returned_about x (Some st) u = is_status_about (status_row (word_of st)) x u
is_returned_about x None u = false

abbrev pub is_return_about : Place → State → Option Status → Rule → Subject → Bool
is_return_about place x st R02 (about.Context v) = is_kept_context x (named_context st) v
is_return_about place x st R05 (about.Operation v) = is_kept_operation place x v
is_return_about place x st R06 u = is_returned_about x st u
is_return_about place x st R10 (about.Lock l) = holds_lock l x.locks
is_return_about place x st R13 (about.Context v) = is_context (named_context st) v
is_return_about place x st _ _ = false

-- ---- instructions

-- whether a rule that an instruction breaks is broken by this operand
abbrev pub is_about : Place → State → Instruction → Rule → Subject → Bool
is_about place x (instruction.Act a next) r u = is_action_about a u
is_about place x (instruction.Call c granted failed) r u = is_row_about (row (roles c).call) place x (roles c) r u
is_about place x (instruction.Test t granted failed) r u = is_test_about t u
is_about place x (instruction.Repeat turns body next) r u = false
is_about place x (instruction.Return st) r u = is_return_about place x st r u
is_about place x instruction.End r u = is_return_about place x None r u
