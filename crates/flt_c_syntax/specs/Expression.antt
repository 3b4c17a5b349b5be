-- How expressions are read.
use Rattle.std.specs.Prelude.{ℕ, zero, suc, if◌then◌else◌, ◌==◌, List, [], ◌∷◌, Option, Some, None, Ok}
use Rattle.flt_c_tokens.specs.declared.token.Kind.{Kind}
use Rattle.flt_c_tokens.specs.declared.token.Kind.TheVariants as k
use Rattle.flt_c_syntax.specs.Cursor.{Parser, ◌>>=◌, ◌>>◌, pure, ◌<$>◌, refuse, fail, peek, here, take_token, expect, word, separator, many}
use Rattle.flt_c_syntax.specs.Operators.{level_of, assignment_level, whole_level, operator_of, prefix_of, begins_designator}
use Rattle.flt_c_syntax.specs.Tokens.{kind, place, sees, is_type_part, run, behind, words}
use Rattle.flt_c_syntax.specs.Made.{prefixed, suffixed, linked}
use Rattle.flt_c_syntax.specs.Types.{type_of, behind_type, is_literal, is_type_argument, begins_text, begins_prefix}
use Rattle.flt_c_syntax.specs.declared.class.Class.{Class}
use Rattle.flt_c_syntax.specs.declared.class.Part.TheVariants as parts
use Rattle.flt_c_syntax.specs.declared.class.Role.{Role}
use Rattle.flt_c_syntax.specs.declared.class.Role.TheVariants as roles
use Rattle.flt_c_syntax.specs.declared.fault.Reason.TheVariants as reasons
use Rattle.flt_c_syntax.specs.declared.tree.Designator.{Designator}
use Rattle.flt_c_syntax.specs.declared.tree.Designator.TheVariants as designators
use Rattle.flt_c_syntax.specs.declared.tree.Expression.{Expression}
use Rattle.flt_c_syntax.specs.declared.tree.Expression.TheVariants as made
use Rattle.flt_c_syntax.specs.declared.tree.Initialiser.{Initialiser}
use Rattle.flt_c_syntax.specs.declared.tree.Initialiser.TheVariants.{Plain, Designated}
use Rattle.flt_c_syntax.specs.declared.tree.Link.{Link}
use Rattle.flt_c_syntax.specs.declared.tree.Link.TheVariants.{Operated, Choice}
use Rattle.flt_c_syntax.specs.declared.tree.Operator.{Operator}
use Rattle.flt_c_syntax.specs.declared.tree.Place.{Place}
use Rattle.flt_c_syntax.specs.declared.tree.Prefix.{Prefix}
use Rattle.flt_c_syntax.specs.declared.tree.Prefix.TheVariants as prefixes
use Rattle.flt_c_syntax.specs.declared.tree.Suffix.{Suffix}
use Rattle.flt_c_syntax.specs.declared.tree.Suffix.TheVariants as suffixes
use Rattle.flt_c_syntax.specs.declared.tree.TypeName.{TypeName}

-- ---- types, texts and prefixes

-- words and stars
unfoldable pub type_name : Parser TypeName
type_name = λ i. if is_type_part (kind i) then Ok (type_of i, behind_type i) else refuse i

-- strings, and names among them
unfoldable pub texts : Parser (List ℕ)
texts = λ i. Ok (words (run parts.Text i), behind parts.Text i)

-- a sign before an operand
abbrev pub sign_by : Option Prefix → Parser Prefix
sign_by None = refuse
sign_by (Some p) = take_token >> pure p

abbrev pub prefix_by : Kind → Parser Prefix
prefix_by k.OpenParen = do take_token; t ← type_name; expect k.CloseParen; pure (prefixes.Cast t)
prefix_by k.Sizeof = take_token >> pure prefixes.SizeOf
prefix_by kind = sign_by (prefix_of kind)

-- a prefix, if one stands here
unfoldable pub prefix : List Class → Parser (Option Prefix)
prefix known = λ i. if begins_prefix known i then (Some <$> (peek >>= prefix_by)) i else Ok (None, i)

-- behind `sizeof`
unfoldable pub measured : Place → Parser Expression
measured at = do expect k.OpenParen; t ← type_name; expect k.CloseParen; pure (made.SizeOf at t)

-- ---- operands and what stands behind them, with no expression inside

abbrev pub plain_suffix_by : Kind → Parser (Option Suffix)
plain_suffix_by k.Dot = take_token >> (λ w. Some (suffixes.Member w)) <$> word k.Name
plain_suffix_by k.Arrow = take_token >> (λ w. Some (suffixes.Arrow w)) <$> word k.Name
plain_suffix_by k.DoubleColon = take_token >> (λ w. Some (suffixes.Scope w)) <$> word k.Name
plain_suffix_by k.Increment = take_token >> pure (Some suffixes.Increment)
plain_suffix_by k.Decrement = take_token >> pure (Some suffixes.Decrement)
plain_suffix_by _ = pure None

abbrev pub plain_primary_by : Place → Kind → Parser Expression
plain_primary_by at k.Name = made.Name at <$> word k.Name
plain_primary_by at k.Number = made.Number at <$> word k.Number
plain_primary_by at k.Character = made.Character at <$> word k.Character
plain_primary_by at k.Sizeof = take_token >> measured at
plain_primary_by at k.OpenBracket = fail reasons.Lambda
plain_primary_by at _ = refuse

-- ---- expressions; `inner` reads those inside brackets

module _ (known : List Class) (inner : Role → Parser Expression) where
  -- ".NAME" | "[" expr "]"
  abbrev pub designator_by : Kind → Parser (Option Designator)
  designator_by k.Dot = take_token >> (λ w. Some (designators.Member w)) <$> word k.Name
  designator_by k.OpenBracket = do take_token; e ← inner roles.Whole; expect k.CloseBracket; pure (Some (designators.Index e))
  designator_by _ = pure None

  unfoldable pub designator : Parser (Option Designator)
  designator = peek >>= designator_by

  -- [ designator { designator } "=" ] value
  unfoldable pub initialiser : Parser Initialiser
  initialiser = λ i.
      if begins_designator (kind i)
      then (do ds ← many designator; expect k.Assign; e ← inner roles.Value; pure (Designated ds e)) i
      else (Plain <$> inner roles.Value) i

  -- an initialiser with the comma behind it, if another one stands here
  unfoldable pub next_initialiser : Parser (Option Initialiser)
  next_initialiser = λ i. if sees k.CloseBrace i then Ok (None, i) else (do x ← initialiser; separator k.CloseBrace; pure (Some x)) i

  -- "{" [ initialiser { "," initialiser } [ "," ] ] "}"
  unfoldable pub braces : Parser (List Initialiser)
  braces = do expect k.OpenBrace; xs ← many next_initialiser; expect k.CloseBrace; pure xs

  -- an argument with the comma behind it, if another one stands here
  unfoldable pub next_argument : Parser (Option Expression)
  next_argument = λ i. if sees k.CloseParen i then Ok (None, i) else (do e ← inner roles.Argument; separator k.CloseParen; pure (Some e)) i

  -- what stands behind an operand
  abbrev pub suffix_by : Kind → Parser (Option Suffix)
  suffix_by k.OpenParen = do take_token; es ← many next_argument; expect k.CloseParen; pure (Some (suffixes.Call es))
  suffix_by k.OpenBracket = do take_token; e ← inner roles.Whole; expect k.CloseBracket; pure (Some (suffixes.Index e))
  suffix_by kind = plain_suffix_by kind

  unfoldable pub suffix : Parser (Option Suffix)
  suffix = peek >>= suffix_by

  -- behind "(": braces of a type, or an expression
  unfoldable pub bracketed : Place → Parser Expression
  bracketed at = λ i.
      if is_literal i then (do t ← type_name; expect k.CloseParen; made.Compound at t <$> braces) i
      else (if sees k.OpenBrace i then fail reasons.StatementExpression i
      else (do e ← inner roles.Whole; expect k.CloseParen; pure e) i)

  -- behind the word of a cast of C++
  unfoldable pub named_cast : Place → Parser Expression
  named_cast at = do
    expect k.Less
    t ← type_name
    expect k.Greater
    expect k.OpenParen
    e ← inner roles.Whole
    expect k.CloseParen
    pure (made.Prefixed at (prefixes.Cast t ∷ []) e)

  abbrev pub primary_by : Place → Kind → Parser Expression
  primary_by at k.OpenParen = take_token >> bracketed at
  primary_by at k.Cast = take_token >> named_cast at
  primary_by at kind = plain_primary_by at kind

  -- an operand without what stands before and behind it
  unfoldable pub primary : Parser Expression
  primary = λ i. if begins_text i then (made.Text (place i) <$> texts) i else primary_by (place i) (kind i) i

  -- { prefix } primary { suffix }
  unfoldable pub unary : Parser Expression
  unary = do
    at ← here
    ps ← many (prefix known)
    from ← here
    e ← primary
    ss ← many suffix
    pure (prefixed at ps (suffixed from e ss))

  -- what stands between "?" and ":"
  unfoldable pub middle : Parser (Option Expression)
  middle = λ i. if sees k.Colon i then Ok (None, i) else (Some <$> inner roles.Whole) i

  -- "?" [ expr ] ":" operand
  abbrev pub link_by : Parser Expression → Option Operator → Parser Link
  link_by operand (Some op) = take_token >> Operated op <$> operand
  link_by operand None = do expect k.Question; m ← middle; expect k.Colon; Choice m <$> operand

  -- an operator of the level with the operand behind it, if one stands here
  unfoldable pub link : ℕ → Parser Expression → Parser (Option Link)
  link n operand = λ i. if level_of (kind i) == n then (Some <$> link_by operand (operator_of (kind i))) i else Ok (None, i)

  -- operands with operators of the level between them
  unfoldable pub level : ℕ → Parser Expression
  level zero = unary
  level (suc n) = do
    at ← here
    e ← level n
    ls ← many (link (suc n) (level n))
    pure (linked at e ls)

  -- an argument: a type, or an expression without commas
  unfoldable pub argument : Parser Expression
  argument = λ i. if is_type_argument i then (made.Type (place i) <$> type_name) i else level assignment_level i

  -- what is assigned: braces, or an expression without commas
  unfoldable pub value : Parser Expression
  value = λ i. if sees k.OpenBrace i then (made.Braces (place i) <$> braces) i else level assignment_level i

  abbrev pub expression_as : Role → Parser Expression
  expression_as roles.Whole = level whole_level
  expression_as roles.Argument = argument
  expression_as roles.Value = value

-- expressions in which brackets nest no deeper than the number, themselves counted
unfoldable pub expression : List Class → ℕ → Role → Parser Expression
expression known zero role = fail reasons.TooDeep
expression known (suc depth) role = expression_as known (expression known depth) role
