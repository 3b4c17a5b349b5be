-- Operators of expressions: their levels, and what they mean.
use Rattle.std.specs.Prelude.{ℕ, Bool, true, false, Option, Some, None}
use Rattle.flt_c_tokens.specs.declared.token.Kind.{Kind}
use Rattle.flt_c_tokens.specs.declared.token.Kind.TheVariants as k
use Rattle.flt_c_syntax.specs.declared.tree.Operator.{Operator}
use Rattle.flt_c_syntax.specs.declared.tree.Operator.TheVariants as op
use Rattle.flt_c_syntax.specs.declared.tree.Prefix.{Prefix}
use Rattle.flt_c_syntax.specs.declared.tree.Prefix.TheVariants as prefixes

-- The level of an operator between two operands; the tightest is 1. What is none has level 0.
abbrev pub level_of : Kind → ℕ
level_of k.Star = 1
level_of k.Slash = 1
level_of k.Percent = 1
level_of k.Plus = 2
level_of k.Minus = 2
level_of k.ShiftLeft = 3
level_of k.ShiftRight = 3
level_of k.Less = 4
level_of k.Greater = 4
level_of k.LessEqual = 4
level_of k.GreaterEqual = 4
level_of k.Equal = 5
level_of k.NotEqual = 5
level_of k.Ampersand = 6
level_of k.Caret = 7
level_of k.Bar = 8
level_of k.LogicalAnd = 9
level_of k.LogicalOr = 10
level_of k.Question = 11
level_of k.Assign = 12
level_of k.AssignSum = 12
level_of k.AssignDifference = 12
level_of k.AssignProduct = 12
level_of k.AssignQuotient = 12
level_of k.AssignRemainder = 12
level_of k.AssignAnd = 12
level_of k.AssignOr = 12
level_of k.AssignXor = 12
level_of k.AssignLeft = 12
level_of k.AssignRight = 12
level_of k.Comma = 13
level_of _ = 0

-- the levels up to assignments, and all
abbrev pub assignment_level : ℕ
assignment_level = 12

abbrev pub whole_level : ℕ
whole_level = 13

-- what an operator of one token means
abbrev pub operator_of : Kind → Option Operator
operator_of k.Star = Some op.Product
operator_of k.Slash = Some op.Quotient
operator_of k.Percent = Some op.Remainder
operator_of k.Plus = Some op.Sum
operator_of k.Minus = Some op.Difference
operator_of k.ShiftLeft = Some op.ShiftLeft
operator_of k.ShiftRight = Some op.ShiftRight
operator_of k.Less = Some op.Less
operator_of k.Greater = Some op.Greater
operator_of k.LessEqual = Some op.LessEqual
operator_of k.GreaterEqual = Some op.GreaterEqual
operator_of k.Equal = Some op.Equal
operator_of k.NotEqual = Some op.NotEqual
operator_of k.Ampersand = Some op.BitAnd
operator_of k.Caret = Some op.BitXor
operator_of k.Bar = Some op.BitOr
operator_of k.LogicalAnd = Some op.And
operator_of k.LogicalOr = Some op.Or
operator_of k.Assign = Some op.Assign
operator_of k.AssignSum = Some op.AssignSum
operator_of k.AssignDifference = Some op.AssignDifference
operator_of k.AssignProduct = Some op.AssignProduct
operator_of k.AssignQuotient = Some op.AssignQuotient
operator_of k.AssignRemainder = Some op.AssignRemainder
operator_of k.AssignAnd = Some op.AssignAnd
operator_of k.AssignOr = Some op.AssignOr
operator_of k.AssignXor = Some op.AssignXor
operator_of k.AssignLeft = Some op.AssignLeft
operator_of k.AssignRight = Some op.AssignRight
operator_of k.Comma = Some op.Comma
operator_of _ = None

-- what a sign before an operand means
abbrev pub prefix_of : Kind → Option Prefix
prefix_of k.Exclamation = Some prefixes.Not
prefix_of k.Tilde = Some prefixes.Complement
prefix_of k.Minus = Some prefixes.Minus
prefix_of k.Plus = Some prefixes.Plus
prefix_of k.Ampersand = Some prefixes.Address
prefix_of k.Star = Some prefixes.Content
prefix_of k.Increment = Some prefixes.Increment
prefix_of k.Decrement = Some prefixes.Decrement
prefix_of _ = None

-- what begins something behind an operand
abbrev pub begins_suffix : Kind → Bool
begins_suffix k.OpenParen = true
begins_suffix k.OpenBracket = true
begins_suffix k.Dot = true
begins_suffix k.Arrow = true
begins_suffix k.DoubleColon = true
begins_suffix k.Increment = true
begins_suffix k.Decrement = true
begins_suffix _ = false

-- what begins a designator
abbrev pub begins_designator : Kind → Bool
begins_designator k.Dot = true
begins_designator k.OpenBracket = true
begins_designator _ = false

-- What an operand begins with, of which none can go on with an expression; and signs that can.
abbrev pub begins_operand : Kind → Bool
begins_operand k.Name = true
begins_operand k.Number = true
begins_operand k.Character = true
begins_operand k.Text = true
begins_operand k.OpenParen = true
begins_operand k.Tilde = true
begins_operand k.Exclamation = true
begins_operand k.Sizeof = true
begins_operand k.Cast = true
begins_operand _ = false

abbrev pub is_either_sign : Kind → Bool
is_either_sign k.Ampersand = true
is_either_sign k.Star = true
is_either_sign k.Plus = true
is_either_sign k.Minus = true
is_either_sign k.Increment = true
is_either_sign k.Decrement = true
is_either_sign _ = false
