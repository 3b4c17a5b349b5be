-- The variables of a state, by name.
use Rattle.std.specs.Prelude.{slice_index_or, slice_set}
use Rattle.flt_tree.specs.Variable.{context_place, operation_place}
use Rattle.flt_tree.specs.declared.variable.ContextVariable.{ContextVariable}
use Rattle.flt_tree.specs.declared.variable.OperationVariable.{OperationVariable}
use Rattle.flt_abs.specs.Sets.{StatusSet, null_alone}
use Rattle.flt_abs.specs.State.{State}

-- what may be so of a variable
abbrev pub context_in : State → ContextVariable → StatusSet
context_in x c = slice_index_or x.contexts (context_place c) null_alone

abbrev pub operation_in : State → OperationVariable → StatusSet
operation_in x d = slice_index_or x.operations (operation_place d) null_alone

-- the state in which a variable has these statuses
abbrev pub with_context : State → ContextVariable → StatusSet → State
with_context x c s = record x { contexts = slice_set x.contexts (context_place c) s }

abbrev pub with_operation : State → OperationVariable → StatusSet → State
with_operation x d s = record x { operations = slice_set x.operations (operation_place d) s }
