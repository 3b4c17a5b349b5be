-- The faults of tests, and of statements that neither call nor branch: beside each production a constructor for each place where
-- it can fail. What stands before that place is spelled by the grammar.
use Rattle.std.specs.Prelude.{◌≡◌, ◌≢◌, false, None}
use Rattle.flt_syntax.specs.CallFails.{FallibleFails}
use Rattle.flt_syntax.specs.FirstWords.{begins_test}
use Rattle.flt_syntax.specs.WordFails.{Refused, Unknown, NextFails, KnownFails, ContextFails}
use Rattle.flt_syntax.specs.ActionGrammar.{AtomAt}
use Rattle.flt_syntax.specs.Cursor.{Input, kind}
use Rattle.flt_syntax.specs.Scope.{Scope}
use Rattle.flt_syntax.specs.Tables.{number_variable_of, removed_variable_of, operation_variable_of}
use Rattle.flt_syntax.specs.Words.{Next, Meant, ContextAt}
use Rattle.flt_syntax.specs.declared.fault.SyntaxFault.{SyntaxFault}
use Rattle.flt_syntax.specs.declared.token.Kind.TheVariants as k
use Rattle.flt_tree.specs.declared.variable.Atom.{Atom}
use Rattle.flt_tree.specs.declared.variable.ContextVariable.{ContextVariable}
use Rattle.flt_tree.specs.declared.variable.NumberVariable.{NumberVariable}
use Rattle.flt_tree.specs.declared.variable.RemovedVariable.{RemovedVariable}

-- atom, where nothing else may stand
pub data AtomFails : Input → SyntaxFault → Type 0 where
  no_atom : {i : Input} {f : SyntaxFault} → number_variable_of (kind i) ≡ None → kind i ≢ k.Number → Unknown i f → AtomFails i f

-- atom, where other words may stand too
pub data LeadingFails : Input → SyntaxFault → Type 0 where
  no_leading : {i : Input} {f : SyntaxFault} → number_variable_of (kind i) ≡ None → kind i ≢ k.Number → Refused i f → LeadingFails i f

-- atom [ ("+" | "-") atom ]
pub data ExpressionFails : Input → SyntaxFault → Type 0 where
  first : {i : Input} {f : SyntaxFault} → LeadingFails i f → ExpressionFails i f
  sum : {i a b : Input} {x : Atom} {f : SyntaxFault} → AtomAt i x a → Next k.Plus a b → AtomFails b f → ExpressionFails i f
  difference : {i a b : Input} {x : Atom} {f : SyntaxFault} → AtomAt i x a → Next k.Minus a b → AtomFails b f → ExpressionFails i f

-- a statement that neither calls nor branches, behind its first word
pub data ActionFails : Input → SyntaxFault → Type 0 where
  -- N "=" ("value" C | "file" D | expression)
  number_assign : {i a : Input} {n : NumberVariable} {f : SyntaxFault} →
      Meant number_variable_of i n a → NextFails k.Assign a f → ActionFails i f
  number_expression : {i a b : Input} {n : NumberVariable} {f : SyntaxFault} →
      Meant number_variable_of i n a → Next k.Assign a b → kind b ≢ k.Value → kind b ≢ k.File → ExpressionFails b f → ActionFails i f
  number_value : {i a b l : Input} {n : NumberVariable} {f : SyntaxFault} →
      Meant number_variable_of i n a → Next k.Assign a b → Next k.Value b l → ContextFails l f → ActionFails i f
  number_file : {i a b l : Input} {n : NumberVariable} {f : SyntaxFault} →
      Meant number_variable_of i n a → Next k.Assign a b → Next k.File b l → KnownFails operation_variable_of l f → ActionFails i f
  -- "value" C "=" atom
  value_context : {i a : Input} {f : SyntaxFault} → Next k.Value i a → ContextFails a f → ActionFails i f
  value_assign : {i a b : Input} {c : ContextVariable} {f : SyntaxFault} →
      Next k.Value i a → ContextAt a c b → NextFails k.Assign b f → ActionFails i f
  value_atom : {i a b l : Input} {c : ContextVariable} {f : SyntaxFault} →
      Next k.Value i a → ContextAt a c b → Next k.Assign b l → AtomFails l f → ActionFails i f
  -- C "=" "NULL"
  context_assign : {i a : Input} {c : ContextVariable} {f : SyntaxFault} → ContextAt i c a → NextFails k.Assign a f → ActionFails i f
  context_null : {i a b : Input} {c : ContextVariable} {f : SyntaxFault} →
      ContextAt i c a → Next k.Assign a b → NextFails k.Null b f → ActionFails i f
  -- O "=" "NULL"
  operation_assign : {i a : Input} {x : RemovedVariable} {f : SyntaxFault} →
      Meant removed_variable_of i x a → NextFails k.Assign a f → ActionFails i f
  operation_null : {i a b : Input} {x : RemovedVariable} {f : SyntaxFault} →
      Meant removed_variable_of i x a → Next k.Assign a b → NextFails k.Null b f → ActionFails i f

-- cond
pub data ConditionFails (scope : Scope) : Input → SyntaxFault → Type 0 where
  -- C "!=" "NULL"
  context_unlike : {i a : Input} {c : ContextVariable} {f : SyntaxFault} →
      ContextAt i c a → NextFails k.NotEqual a f → ConditionFails scope i f
  context_unlike_null : {i a b : Input} {c : ContextVariable} {f : SyntaxFault} →
      ContextAt i c a → Next k.NotEqual a b → NextFails k.Null b f → ConditionFails scope i f
  -- O "!=" "NULL"
  operation_unlike : {i a : Input} {x : RemovedVariable} {f : SyntaxFault} →
      Meant removed_variable_of i x a → NextFails k.NotEqual a f → ConditionFails scope i f
  operation_unlike_null : {i a b : Input} {x : RemovedVariable} {f : SyntaxFault} →
      Meant removed_variable_of i x a → Next k.NotEqual a b → NextFails k.Null b f → ConditionFails scope i f
  -- N "==" atom | N "<" atom
  comparison : {i a : Input} {n : NumberVariable} {f : SyntaxFault} →
      Meant number_variable_of i n a → kind a ≢ k.Equal → kind a ≢ k.Less → Refused a f → ConditionFails scope i f
  equal_atom : {i a b : Input} {n : NumberVariable} {f : SyntaxFault} →
      Meant number_variable_of i n a → Next k.Equal a b → AtomFails b f → ConditionFails scope i f
  less_atom : {i a b : Input} {n : NumberVariable} {f : SyntaxFault} →
      Meant number_variable_of i n a → Next k.Less a b → AtomFails b f → ConditionFails scope i f
  -- "irp" "data"
  irp_data : {i a : Input} {f : SyntaxFault} → Next k.Irp i a → NextFails k.Data a f → ConditionFails scope i f
  -- fallible, where no other test begins
  call : {i : Input} {f : SyntaxFault} → begins_test (kind i) ≡ false → FallibleFails scope i f → ConditionFails scope i f
