-- How variables, numbers and operations are read. A word that is none of those that are asked is an unknown name.
use Rattle.std.specs.Prelude.{Bool, if◌then◌else◌, Option, Some, None, Ok, Err}
use denote.Enum.Bare.{sameb}
use Rattle.flt_syntax.specs.Cursor.{Parser, and_then, ◌>>=◌, pure, ◌<$>◌, front, next, kind, unknown, refusal, fail, sees, known_or, eat}
use Rattle.flt_tree.specs.contracts.variable.ContextVariable.{the_type}
use Rattle.flt_syntax.specs.declared.fault.FaultKind.TheVariants.{E08}
use Rattle.flt_syntax.specs.declared.fault.SyntaxFault.{SyntaxFault}
use Rattle.flt_syntax.specs.declared.token.Kind.TheVariants as k
use Rattle.flt_tree.specs.declared.variable.Atom.{Atom}
use Rattle.flt_tree.specs.declared.variable.Atom.TheVariants as atoms
use Rattle.flt_tree.specs.declared.variable.ContextVariable.{ContextVariable}
use Rattle.flt_tree.specs.declared.variable.NumberVariable.{NumberVariable}
use Rattle.flt_tree.specs.declared.variable.OperationVariable.{OperationVariable}
use Rattle.flt_tree.specs.declared.variable.RemovedVariable.{RemovedVariable}
pub use Rattle.flt_syntax.specs.Tables.{number_variable_of, context_variable_of, removed_variable_of, operation_variable_of}

-- a variable of contexts where nothing else may stand
unfoldable pub context_variable : Parser ContextVariable
context_variable = λ i. known_or (unknown i) (context_variable_of (kind i)) i

-- a variable of removed operations where nothing else may stand
unfoldable pub removed_variable : Parser RemovedVariable
removed_variable = λ i. known_or (unknown i) (removed_variable_of (kind i)) i

-- a variable of operations where nothing else may stand
unfoldable pub operation_variable : Parser OperationVariable
operation_variable = λ i. known_or (unknown i) (operation_variable_of (kind i)) i

-- an atom: a number or a variable of numbers, else the fault
abbrev pub atom_by : SyntaxFault → Option NumberVariable → Parser Atom
atom_by f (Some n) = λ i. Ok (atoms.Variable n, next i)
atom_by f None = λ i. if sees k.Number i then Ok (atoms.Number (front i).word.value, next i) else Err f

-- an atom where nothing else may stand
unfoldable pub atom : Parser Atom
atom = λ i. atom_by (unknown i) (number_variable_of (kind i)) i

-- an atom where other words may stand too
unfoldable pub leading_atom : Parser Atom
leading_atom = λ i. atom_by (refusal i) (number_variable_of (kind i)) i

-- ---- no variable twice in one call

-- `==` on variables of contexts
unfoldable pub same_context : ContextVariable → ContextVariable → Bool
same_context = sameb the_type

-- a variable of contexts, other than the one that the call has
unfoldable pub other_context : ContextVariable → Parser ContextVariable
other_context first = λ i. and_then (context_variable i) (λ q. if same_context q.0 first then fail E08 i else Ok q)

-- [ "context" C ]
unfoldable pub with_context : Parser (Option ContextVariable)
with_context = do
  found ← eat k.Context
  if found then Some <$> context_variable else pure None
