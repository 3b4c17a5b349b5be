-- The grammar of tests, and of statements that neither call nor branch. Each constructor is a production.
use Rattle.std.specs.Prelude.{ℕ}
use Rattle.flt_syntax.specs.CallGrammar.{FallibleAt}
use Rattle.flt_syntax.specs.Cursor.{Input}
use Rattle.flt_syntax.specs.Tables.{number_variable_of, removed_variable_of, operation_variable_of}
use Rattle.flt_syntax.specs.Scope.{Scope}
use Rattle.flt_syntax.specs.Words.{Next, Meant, NumberAt, ContextAt}
use Rattle.flt_tree.specs.declared.filter.Action.{Action}
use Rattle.flt_tree.specs.declared.filter.Action.TheVariants.{SetNumber, ReadValue, ReadFile, WriteValue, ClearContext, ClearOperation}
use Rattle.flt_tree.specs.declared.filter.Condition.{Condition}
use Rattle.flt_tree.specs.declared.filter.Condition.TheVariants as made
use Rattle.flt_tree.specs.declared.filter.FallibleCall.{FallibleCall}
use Rattle.flt_tree.specs.declared.filter.Routine.{Routine}
use Rattle.flt_tree.specs.declared.filter.Test.{Test}
use Rattle.flt_tree.specs.declared.filter.Test.TheVariants.{ContextIsSome, OperationIsSome, Equal, Less, IsIrp, IsDraining}
use Rattle.flt_syntax.specs.declared.token.Kind.TheVariants as k
use Rattle.flt_tree.specs.declared.variable.Atom.{Atom}
use Rattle.flt_tree.specs.declared.variable.Atom.TheVariants as atoms
use Rattle.flt_tree.specs.declared.variable.ContextVariable.{ContextVariable}
use Rattle.flt_tree.specs.declared.variable.Expression.{Expression}
use Rattle.flt_tree.specs.declared.variable.Expression.TheVariants as expressions
use Rattle.flt_tree.specs.declared.variable.NumberVariable.{NumberVariable}
use Rattle.flt_tree.specs.declared.variable.OperationVariable.{OperationVariable}
use Rattle.flt_tree.specs.declared.variable.RemovedVariable.{RemovedVariable}

-- atom
pub data AtomAt : Input → Atom → Input → Type 0 where
  -- NUMBER
  number : {i o : Input} {n : ℕ} → NumberAt i n o → AtomAt i (atoms.Number n) o
  -- N
  variable : {i o : Input} {n : NumberVariable} → Meant number_variable_of i n o → AtomAt i (atoms.Variable n) o

-- atom [ ("+" | "-") atom ]
pub data ExpressionAt : Input → Expression → Input → Type 0 where
  one : {i o : Input} {x : Atom} → AtomAt i x o → ExpressionAt i (expressions.Atom x) o
  sum : {i a b o : Input} {x y : Atom} → AtomAt i x a → Next k.Plus a b → AtomAt b y o → ExpressionAt i (expressions.Sum x y) o
  difference : {i a b o : Input} {x y : Atom} → AtomAt i x a → Next k.Minus a b → AtomAt b y o →
      ExpressionAt i (expressions.Difference x y) o

-- a statement that neither calls nor branches
pub data ActionAt : Input → Action → Input → Type 0 where
  -- N "=" atom [ ("+" | "-") atom ]
  set_number : {i a b o : Input} {n : NumberVariable} {e : Expression} →
      Meant number_variable_of i n a → Next k.Assign a b → ExpressionAt b e o → ActionAt i (SetNumber n e) o
  -- N "=" "value" C
  read_value : {i a b l o : Input} {n : NumberVariable} {c : ContextVariable} →
      Meant number_variable_of i n a → Next k.Assign a b → Next k.Value b l → ContextAt l c o → ActionAt i (ReadValue n c) o
  -- N "=" "file" D
  read_file : {i a b l o : Input} {n : NumberVariable} {d : OperationVariable} →
      Meant number_variable_of i n a → Next k.Assign a b → Next k.File b l → Meant operation_variable_of l d o →
      ActionAt i (ReadFile n d) o
  -- "value" C "=" atom
  write_value : {i a b l o : Input} {c : ContextVariable} {x : Atom} →
      Next k.Value i a → ContextAt a c b → Next k.Assign b l → AtomAt l x o → ActionAt i (WriteValue c x) o
  -- C "=" "NULL"
  clear_context : {i a b o : Input} {c : ContextVariable} →
      ContextAt i c a → Next k.Assign a b → Next k.Null b o → ActionAt i (ClearContext c) o
  -- O "=" "NULL"
  clear_operation : {i a b o : Input} {x : RemovedVariable} →
      Meant removed_variable_of i x a → Next k.Assign a b → Next k.Null b o → ActionAt i (ClearOperation x) o

-- cond, of those that call nothing
pub data TestAt : Input → Test → Input → Type 0 where
  -- C "!=" "NULL"
  context_is_some : {i a b o : Input} {c : ContextVariable} →
      ContextAt i c a → Next k.NotEqual a b → Next k.Null b o → TestAt i (ContextIsSome c) o
  -- O "!=" "NULL"
  operation_is_some : {i a b o : Input} {x : RemovedVariable} →
      Meant removed_variable_of i x a → Next k.NotEqual a b → Next k.Null b o → TestAt i (OperationIsSome x) o
  -- N "==" atom
  equal : {i a b o : Input} {n : NumberVariable} {x : Atom} →
      Meant number_variable_of i n a → Next k.Equal a b → AtomAt b x o → TestAt i (Equal n x) o
  -- N "<" atom
  less : {i a b o : Input} {n : NumberVariable} {x : Atom} →
      Meant number_variable_of i n a → Next k.Less a b → AtomAt b x o → TestAt i (Less n x) o
  -- "irp" "data"
  is_irp : {i a o : Input} → Next k.Irp i a → Next k.Data a o → TestAt i IsIrp o
  -- "draining"
  is_draining : {i o : Input} → Next k.Draining i o → TestAt i IsDraining o

-- cond
pub data ConditionAt (scope : Scope) : Input → Condition → Input → Type 0 where
  test : {i o : Input} {t : Test} → TestAt i t o → ConditionAt scope i (made.Test t) o
  -- fallible
  succeeds : {i o : Input} {c : FallibleCall Routine} → FallibleAt scope i c o → ConditionAt scope i (made.Succeeds c) o
