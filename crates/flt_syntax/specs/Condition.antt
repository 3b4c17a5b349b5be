-- How the tests of an `if` are read.
use Rattle.flt_syntax.specs.Call.{fallible_call}
use Rattle.flt_syntax.specs.Cursor.{Parser, ◌>>=◌, ◌>>◌, pure, ◌<$>◌, kind, refuse, peek, take_token, given, expect}
use Rattle.flt_syntax.specs.Operand.{atom, context_variable_of, number_variable_of, removed_variable_of}
use Rattle.flt_syntax.specs.Scope.{Scope}
use Rattle.flt_tree.specs.declared.filter.Condition.{Condition}
use Rattle.flt_tree.specs.declared.filter.Condition.TheVariants as made
use Rattle.flt_tree.specs.declared.filter.Test.{Test}
use Rattle.flt_tree.specs.declared.filter.Test.TheVariants.{ContextIsSome, OperationIsSome, Equal, Less, IsIrp, IsDraining}
use Rattle.flt_syntax.specs.declared.token.Kind.{Kind}
use Rattle.flt_syntax.specs.declared.token.Kind.TheVariants as k
use Rattle.flt_tree.specs.declared.variable.ContextVariable.{ContextVariable}
use Rattle.flt_tree.specs.declared.variable.NumberVariable.{NumberVariable}
use Rattle.flt_tree.specs.declared.variable.RemovedVariable.{RemovedVariable}

-- C "!=" "NULL"
unfoldable pub context_test : ContextVariable → Parser Test
context_test c = take_token >> expect k.NotEqual >> expect k.Null >> pure (ContextIsSome c)

-- O "!=" "NULL"
unfoldable pub operation_test : RemovedVariable → Parser Test
operation_test o = take_token >> expect k.NotEqual >> expect k.Null >> pure (OperationIsSome o)

-- what stands behind a number that is tested, by its first symbol
abbrev pub comparison_by : NumberVariable → Kind → Parser Test
comparison_by n k.Equal = take_token >> Equal n <$> atom
comparison_by n k.Less = take_token >> Less n <$> atom
comparison_by n _ = refuse

-- N "==" atom | N "<" atom
unfoldable pub number_test : NumberVariable → Parser Test
number_test n = take_token >> (peek >>= comparison_by n)

-- "irp" "data" | "draining" | fallible, by the first word
abbrev pub word_test_by : Scope → Kind → Parser Condition
word_test_by scope k.Irp = take_token >> expect k.Data >> pure (made.Test IsIrp)
word_test_by scope k.Draining = take_token >> pure (made.Test IsDraining)
word_test_by scope _ = made.Succeeds <$> fallible_call scope

-- "irp" "data" | "draining" | fallible
unfoldable pub word_test : Scope → Parser Condition
word_test scope = peek >>= word_test_by scope

-- cond
unfoldable pub condition : Scope → Parser Condition
condition scope = λ i.
    given (context_variable_of (kind i)) (λ c. made.Test <$> context_test c)
    (given (removed_variable_of (kind i)) (λ o. made.Test <$> operation_test o)
    (given (number_variable_of (kind i)) (λ n. made.Test <$> number_test n)
    (word_test scope))) i
