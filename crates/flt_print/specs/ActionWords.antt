-- The words of tests, and of statements that neither call nor branch, in the order of the grammar.
use Rattle.std.specs.Prelude.{List, [], ◌∷◌}
use Rattle.flt_print.specs.CallWords.{fallible_words}
use Rattle.flt_tree.specs.Names.{Text}
use Rattle.flt_print.specs.Vocabulary.{spelling, number_kind, context_kind, removed_kind, operation_variable_kind, atom_word}
use Rattle.flt_tree.specs.declared.filter.Action.{Action}
use Rattle.flt_tree.specs.declared.filter.Action.TheVariants.{SetNumber, ReadValue, ReadFile, WriteValue, ClearContext, ClearOperation}
use Rattle.flt_tree.specs.declared.filter.Condition.{Condition}
use Rattle.flt_tree.specs.declared.filter.Condition.TheVariants as made
use Rattle.flt_tree.specs.declared.filter.Test.{Test}
use Rattle.flt_tree.specs.declared.filter.Test.TheVariants.{ContextIsSome, OperationIsSome, Equal, Less, IsIrp, IsDraining}
use Rattle.flt_syntax.specs.declared.token.Kind.TheVariants as k
use Rattle.flt_tree.specs.declared.variable.Expression.{Expression}
use Rattle.flt_tree.specs.declared.variable.Expression.TheVariants as expressions

-- what a variable of numbers is set to
abbrev pub expression_words : Expression → List Text
expression_words (expressions.Atom x) = atom_word x ∷ []
expression_words (expressions.Sum x y) = atom_word x ∷ spelling k.Plus ∷ atom_word y ∷ []
expression_words (expressions.Difference x y) = atom_word x ∷ spelling k.Minus ∷ atom_word y ∷ []

-- a statement that neither calls nor branches
abbrev pub action_words : Action → List Text
action_words (SetNumber n e) = spelling (number_kind n) ∷ spelling k.Assign ∷ expression_words e
action_words (ReadValue n c) = spelling (number_kind n) ∷ spelling k.Assign ∷ spelling k.Value ∷ spelling (context_kind c) ∷ []
action_words (ReadFile n d) = spelling (number_kind n) ∷ spelling k.Assign ∷ spelling k.File ∷ spelling (operation_variable_kind d) ∷ []
action_words (WriteValue c x) = spelling k.Value ∷ spelling (context_kind c) ∷ spelling k.Assign ∷ atom_word x ∷ []
action_words (ClearContext c) = spelling (context_kind c) ∷ spelling k.Assign ∷ spelling k.Null ∷ []
action_words (ClearOperation o) = spelling (removed_kind o) ∷ spelling k.Assign ∷ spelling k.Null ∷ []

-- a test that calls nothing
abbrev pub test_words : Test → List Text
test_words (ContextIsSome c) = spelling (context_kind c) ∷ spelling k.NotEqual ∷ spelling k.Null ∷ []
test_words (OperationIsSome o) = spelling (removed_kind o) ∷ spelling k.NotEqual ∷ spelling k.Null ∷ []
test_words (Equal n x) = spelling (number_kind n) ∷ spelling k.Equal ∷ atom_word x ∷ []
test_words (Less n x) = spelling (number_kind n) ∷ spelling k.Less ∷ atom_word x ∷ []
test_words IsIrp = spelling k.Irp ∷ spelling k.Data ∷ []
test_words IsDraining = spelling k.Draining ∷ []

-- what an `if` asks
abbrev pub condition_words : Condition → List Text
condition_words (made.Test t) = test_words t
condition_words (made.Succeeds c) = fallible_words c
