-- How statements without blocks are read.
use Rattle.std.specs.Prelude.{Ok}
use Rattle.flt_syntax.specs.Call.{plain_call}
use Rattle.flt_syntax.specs.Cursor.{Input, Parser, ◌>>=◌, ◌>>◌, pure, ◌<$>◌, kind, span, peek, take_token, given, expect}
use Rattle.flt_syntax.specs.Operand.{atom, leading_atom, context_variable, operation_variable, context_variable_of}
use Rattle.flt_syntax.specs.Operand.{number_variable_of, removed_variable_of}
use Rattle.flt_syntax.specs.Scope.{Scope}
use Rattle.flt_syntax.specs.Status.{optional_status}
use Rattle.flt_tree.specs.declared.filter.Action.{Action}
use Rattle.flt_tree.specs.declared.filter.Action.TheVariants.{SetNumber, ReadValue, ReadFile, WriteValue, ClearContext, ClearOperation}
use Rattle.flt_tree.specs.declared.filter.Span.{Span}
use Rattle.flt_tree.specs.declared.filter.Statement.{Statement}
use Rattle.flt_tree.specs.declared.filter.Statement.TheVariants as made
use Rattle.flt_syntax.specs.declared.token.Kind.{Kind}
use Rattle.flt_syntax.specs.declared.token.Kind.TheVariants as k
use Rattle.flt_tree.specs.declared.variable.Atom.{Atom}
use Rattle.flt_tree.specs.declared.variable.ContextVariable.{ContextVariable}
use Rattle.flt_tree.specs.declared.variable.Expression.{Expression}
use Rattle.flt_tree.specs.declared.variable.Expression.TheVariants as expressions
use Rattle.flt_tree.specs.declared.variable.NumberVariable.{NumberVariable}
use Rattle.flt_tree.specs.declared.variable.RemovedVariable.{RemovedVariable}

-- what may stand behind the first atom, by its symbol
abbrev pub expression_by : Atom → Kind → Parser Expression
expression_by first k.Plus = take_token >> expressions.Sum first <$> atom
expression_by first k.Minus = take_token >> expressions.Difference first <$> atom
expression_by first _ = pure (expressions.Atom first)

-- atom [ ("+" | "-") atom ]
unfoldable pub expression : Parser Expression
expression = do
  first ← leading_atom
  sign ← peek
  expression_by first sign

-- what a number is set to, by its first word
abbrev pub number_by : NumberVariable → Kind → Parser Action
number_by n k.Value = take_token >> ReadValue n <$> context_variable
number_by n k.File = take_token >> ReadFile n <$> operation_variable
number_by n _ = SetNumber n <$> expression

-- N "=" ("value" C | "file" D | expression)
unfoldable pub set_number : NumberVariable → Parser Action
set_number n = take_token >> expect k.Assign >> (peek >>= number_by n)

-- C "=" "NULL"
unfoldable pub clear_context : ContextVariable → Parser Action
clear_context c = take_token >> expect k.Assign >> expect k.Null >> pure (ClearContext c)

-- O "=" "NULL"
unfoldable pub clear_operation : RemovedVariable → Parser Action
clear_operation o = take_token >> expect k.Assign >> expect k.Null >> pure (ClearOperation o)

-- "value" C "=" atom
unfoldable pub write_value : Parser Action
write_value = do
  take_token
  c ← context_variable
  expect k.Assign
  a ← atom
  pure (WriteValue c a)

-- a statement made of what is read, with where it stands: it begins with the tokens that were left before
abbrev pub spanned : {A : Type 0} → (Span → A → Statement) → Input → Parser A → Parser Statement
spanned make from p = p >>= (λ x. λ o. Ok (make (span from o) x, o))

-- "value" C "=" atom | "return" [ status ] | plain, by the first word
abbrev pub word_statement_by : Scope → Input → Kind → Parser Statement
word_statement_by scope from k.Value = spanned made.Act from write_value
word_statement_by scope from k.Return = take_token >> spanned made.Return from optional_status
word_statement_by scope from _ = spanned made.Call from (plain_call scope)

-- a statement without blocks that begins with a word of its own
unfoldable pub word_statement : Scope → Parser Statement
word_statement scope = λ i. word_statement_by scope i (kind i) i

-- a statement without blocks
unfoldable pub simple_statement : Scope → Parser Statement
simple_statement scope = λ i.
    given (number_variable_of (kind i)) (λ n. spanned made.Act i (set_number n))
    (given (context_variable_of (kind i)) (λ c. spanned made.Act i (clear_context c))
    (given (removed_variable_of (kind i)) (λ o. spanned made.Act i (clear_operation o))
    (word_statement scope))) i
