-- The variables of an activation, and the numbers that it computes with.
use Rattle.std.specs.Prelude.{ℕ, ◌+◌, ◌-◌, ◌%◌, ◌^◌, false, List, [], ◌∷◌, ◌++◌, Option, Some, None, get_or, set, replicate, option_map}
use Rattle.flt_tree.specs.Variable.{number_place, context_place, operation_place}
use Rattle.flt_tree.specs.declared.filter.Statement.{Statement}
use Rattle.flt_tree.specs.declared.variable.Atom.{Atom}
use Rattle.flt_tree.specs.declared.variable.Atom.TheVariants as atom
use Rattle.flt_tree.specs.declared.variable.ContextVariable.{ContextVariable}
use Rattle.flt_tree.specs.declared.variable.Expression.{Expression}
use Rattle.flt_tree.specs.declared.variable.Expression.TheVariants as expression
use Rattle.flt_tree.specs.declared.variable.NumberVariable.{NumberVariable}
use Rattle.flt_tree.specs.declared.variable.OperationVariable.{OperationVariable}
use Rattle.flt_model.specs.World.{Activation}

-- ---- what it names; none is NULL

-- a number
abbrev pub number_in : Activation → NumberVariable → ℕ
number_in act n = get_or act.numbers (number_place n) 0

-- a context
abbrev pub context_in : Activation → ContextVariable → Option ℕ
context_in act c = get_or act.contexts (context_place c) None

-- a visit of an operation
abbrev pub operation_in : Activation → OperationVariable → Option ℕ
operation_in act d = get_or act.operations (operation_place d) None

-- what a variable names that a call need not have; none where the call hasn't it
abbrev pub named_in : Activation → Option ContextVariable → Option (Option ℕ)
named_in act c = option_map (context_in act) c

-- the activation with this number in the variable
abbrev pub with_number : Activation → NumberVariable → ℕ → Activation
with_number act n value = record act { numbers = set act.numbers (number_place n) value }

-- the activation with this context in the variable, or NULL
abbrev pub with_context_in : Activation → ContextVariable → Option ℕ → Activation
with_context_in act c x = record act { contexts = set act.contexts (context_place c) x }

-- the activation with this visit in the variable, or NULL
abbrev pub with_operation_in : Activation → OperationVariable → Option ℕ → Activation
with_operation_in act d v = record act { operations = set act.operations (operation_place d) v }

-- a variable that a call need not have
abbrev pub with_old : Activation → Option ContextVariable → Option ℕ → Activation
with_old act None x = act
with_old act (Some d) x = with_context_in act d x

-- at entry numbers are 0 and all else is NULL but the given operation and the given context
abbrev pub starting : List Statement → Option ℕ → Option ℕ → Activation
starting body given arg = record {
  rest = body;
  numbers = replicate 8 0;
  contexts = replicate 8 None ++ arg ∷ [];
  operations = replicate 4 None ++ given ∷ [];
  locks = [];
  ended = false;
}

-- ---- numbers wrap at 2^64

-- what an atom stands for
abbrev pub atom_value : Activation → Atom → ℕ
atom_value act (atom.Number k) = k
atom_value act (atom.Variable n) = number_in act n

-- what a sum or a difference comes to
abbrev pub expression_value : Activation → Expression → ℕ
expression_value act (expression.Atom x) = atom_value act x
expression_value act (expression.Sum x y) = (atom_value act x + atom_value act y) % 2 ^ 64
expression_value act (expression.Difference x y) = (atom_value act x + (2 ^ 64 - atom_value act y)) % 2 ^ 64
