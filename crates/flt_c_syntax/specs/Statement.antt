-- How statements are read.
use Rattle.std.specs.Prelude.{ℕ, zero, suc, ◌&&◌, if◌then◌else◌, List, [], ◌∷◌, length, Option, Some, None, Ok}
use Rattle.flt_c_tokens.specs.declared.token.Kind.{Kind}
use Rattle.flt_c_tokens.specs.declared.token.Kind.TheVariants as k
use Rattle.flt_c_syntax.specs.Cursor.{Parser, ◌>>=◌, ◌>>◌, pure, ◌<$>◌, refuse, fail, peek, here, take_token, eat, expect, word}
use Rattle.flt_c_syntax.specs.Cursor.{separator, many}
use Rattle.flt_c_syntax.specs.Expression.{expression, next_argument}
use Rattle.flt_c_syntax.specs.Groups.{behind_group, behind_semicolon, follows_specifier, begins_declaration, begins_name_label}
use Rattle.flt_c_syntax.specs.Groups.{begins_leave, is_macro, begins_loop, ends_list, begins_label_by}
use Rattle.flt_c_syntax.specs.Tokens.{Input, kind, place, next, sees, run, behind}
use Rattle.flt_c_syntax.specs.Types.{stars}
use Rattle.flt_c_syntax.specs.declared.class.Class.{Class}
use Rattle.flt_c_syntax.specs.declared.class.Nest.{Nest}
use Rattle.flt_c_syntax.specs.declared.class.Nest.TheVariants as nests
use Rattle.flt_c_syntax.specs.declared.class.Part.TheVariants as parts
use Rattle.flt_c_syntax.specs.declared.class.Role.TheVariants as roles
use Rattle.flt_c_syntax.specs.declared.fault.Reason.TheVariants as reasons
use Rattle.flt_c_syntax.specs.declared.tree.Branch.{Branch}
use Rattle.flt_c_syntax.specs.declared.tree.Branch.TheVariants as branches
use Rattle.flt_c_syntax.specs.declared.tree.Declarator.{Declarator}
use Rattle.flt_c_syntax.specs.declared.tree.Expression.{Expression}
use Rattle.flt_c_syntax.specs.declared.tree.Form.{Form}
use Rattle.flt_c_syntax.specs.declared.tree.Form.TheVariants as forms
use Rattle.flt_c_syntax.specs.declared.tree.Place.{Place}
use Rattle.flt_c_syntax.specs.declared.tree.Specifier.{Specifier}
use Rattle.flt_c_syntax.specs.declared.tree.Specifier.TheVariants as specifiers
use Rattle.flt_c_syntax.specs.declared.tree.Statement.{Statement}
use Rattle.flt_c_syntax.specs.declared.tree.Statement.TheVariants as made

-- ---- what is not looked at

abbrev pub skipped : Option Input → Parser (Unit {0})
skipped None = refuse
skipped (Some o) = λ i. Ok (tt, o)

-- a group in brackets
unfoldable pub group : Parser (Unit {0})
group = λ i. skipped (behind_group i) i

-- tokens up to a semicolon outside brackets, and it
unfoldable pub up_to_semicolon : Parser (Unit {0})
up_to_semicolon = λ i. skipped (behind_semicolon i) i

-- stars, and qualifiers among them
abbrev pub star_run : Parser ℕ
star_run = λ i. Ok (stars (run parts.Star i), behind parts.Star i)

-- ---- declarations

-- a word of a type; a name before another word or a star; an attribute or members, with their group
abbrev pub specifier_by : Kind → Parser (Option Specifier)
specifier_by k.TypeWord = (λ w. Some (specifiers.Word w)) <$> word k.TypeWord
specifier_by k.Qualifier = (λ w. Some (specifiers.Word w)) <$> word k.Qualifier
specifier_by k.Struct = (λ w. Some (specifiers.Word w)) <$> word k.Struct
specifier_by k.Name = λ i. if follows_specifier (kind (next i)) then ((λ w. Some (specifiers.Word w)) <$> word k.Name) i else Ok (None, i)
specifier_by k.Attribute = do w ← word k.Attribute; group; pure (Some (specifiers.Attribute w))
specifier_by k.OpenBrace = group >> pure (Some specifiers.Members)
specifier_by _ = pure None

unfoldable pub specifier : Parser (Option Specifier)
specifier = peek >>= specifier_by

-- { "[" .. "]" }; the number bounds the turns
unfoldable pub bounds_from : ℕ → Parser (Unit {0})
bounds_from zero = refuse
bounds_from (suc n) = λ i. if sees k.OpenBracket i then (group >> bounds_from n) i else Ok (tt, i)

unfoldable pub bounds : Parser (Unit {0})
bounds = λ i. bounds_from (suc (length i)) i

-- what stands behind a declared name
unfoldable pub form : Parser Form
form = λ i.
    if sees k.OpenParen i then (group >> pure forms.Prototype) i
    else (if sees k.OpenBracket i then (bounds >> pure forms.Array) i else Ok (forms.Plain, i))

-- what is declared without its value: its place, its stars, its name and its form
abbrev pub Declared : Type 0
Declared = Place × (ℕ × (ℕ × Form))

-- behind "(" of a pointer to a function: stars NAME ")" group
unfoldable pub function_pointer : Parser Declared
function_pointer = do
  m ← star_run
  at ← here
  w ← word k.Name
  expect k.CloseParen
  group
  pure (at, (m, (w, forms.FunctionPointer)))

-- NAME form, behind so many stars
unfoldable pub plainly_declared : ℕ → Parser Declared
plainly_declared n = do
  at ← here
  w ← word k.Name
  f ← form
  pure (at, (n, (w, f)))

-- stars NAME form | stars "(" stars NAME ")" group
unfoldable pub declared : Parser Declared
declared = do
  n ← star_run
  is_pointer ← eat k.OpenParen
  if is_pointer then function_pointer else plainly_declared n

-- ---- statements of few tokens

-- a jump
abbrev pub jump_by : Place → Kind → Parser Statement
jump_by at k.Goto = do take_token; w ← word k.Name; expect k.Semicolon; pure (made.Goto at w)
jump_by at k.Break = take_token >> expect k.Semicolon >> pure (made.Break at)
jump_by at k.Continue = take_token >> expect k.Semicolon >> pure (made.Continue at)
jump_by at _ = take_token >> expect k.Semicolon >> pure (made.Leave at)

-- a `typedef` or an attribute
abbrev pub skipped_by : Place → Kind → Parser Statement
skipped_by at k.Typedef = up_to_semicolon >> pure (made.Typedef at)
skipped_by at _ = do w ← word k.Attribute; group; pure (made.Attribute at w)

abbrev pub branch : Expression → List Statement → Branch
branch e ss = branches.If e ss

-- what goes by a test: a loop, or the cases of a value
abbrev pub conditional_of : Place → Kind → Expression → List Statement → Statement
conditional_of at k.While e ss = made.While at e ss
conditional_of at _ e ss = made.Switch at e ss

-- ---- declarations, and parts of statements with expressions, in which brackets may nest so deep

module _ (known : List Class) (depth : ℕ) where
  abbrev pub whole : Parser Expression
  whole = expression known depth roles.Whole

  -- [ "=" value ]
  unfoldable pub first_value : Parser (Option Expression)
  first_value = do
    is_given ← eat k.Assign
    if is_given then Some <$> expression known depth roles.Value else pure None

  -- declared [ "=" value ]
  abbrev pub declarator : Parser Declarator
  declarator = do
    x ← declared
    v ← first_value
    pure (record { place = x.0; stars = x.1.0; name = x.1.1.0; form = x.1.1.1; value = v })

  -- a declarator with the comma behind it, if another one stands here
  unfoldable pub next_declarator : Parser (Option Declarator)
  next_declarator = λ i. if sees k.Semicolon i then Ok (None, i) else (do x ← declarator; separator k.Semicolon; pure (Some x)) i

  -- specifier { specifier } [ declarator { "," declarator } ] ";"
  unfoldable pub declaration : Place → Parser Statement
  declaration at = do
    ws ← many specifier
    xs ← many next_declarator
    expect k.Semicolon
    pure (made.Declaration at ws xs)

  -- "(" expr ")"
  unfoldable pub tested : Parser Expression
  tested = do expect k.OpenParen; e ← whole; expect k.CloseParen; pure e

  -- [ expr ], and the token behind it
  unfoldable pub optional : Kind → Parser (Option Expression)
  optional close = λ i. if sees close i then Ok (None, next i) else (do e ← whole; expect close; pure (Some e)) i

  -- what is done first in a `for`: a declaration, an expression and a semicolon, or a semicolon
  unfoldable pub first : Parser (List Statement)
  first = λ i.
      if begins_declaration i then ((λ s. s ∷ []) <$> declaration (place i)) i
      else (if sees k.Semicolon i then Ok ([], next i)
      else (do e ← whole; expect k.Semicolon; pure (made.Expression (place i) e ∷ [])) i)

  -- [ "..." last ]
  unfoldable pub last : Parser (Option Expression)
  last = do
    is_range ← eat k.Ellipsis
    if is_range then Some <$> expression known depth roles.Argument else pure None

  -- an expression and a semicolon
  unfoldable pub expressed : Place → Parser Statement
  expressed at = do e ← whole; expect k.Semicolon; pure (made.Expression at e)

  -- "(" arguments ")"
  unfoldable pub arguments : Parser (List Expression)
  arguments = do expect k.OpenParen; es ← many (next_argument known (expression known depth)); expect k.CloseParen; pure es

  -- behind "case"
  unfoldable pub case : Place → Parser Statement
  case at = do
    e ← expression known depth roles.Argument
    l ← last
    expect k.Colon
    pure (made.Case at e l)

  -- what begins with no name and has no statement in it
  unfoldable pub plain_statement_by : Place → Kind → Parser Statement
  plain_statement_by at k.Semicolon = take_token >> pure (made.Empty at)
  plain_statement_by at k.Case = take_token >> case at
  plain_statement_by at k.Default = take_token >> expect k.Colon >> pure (made.Default at)
  plain_statement_by at k.Return = take_token >> made.Return at <$> optional k.Semicolon
  plain_statement_by at k.Goto = jump_by at k.Goto
  plain_statement_by at k.Break = jump_by at k.Break
  plain_statement_by at k.Continue = jump_by at k.Continue
  plain_statement_by at k.Leave = jump_by at k.Leave
  plain_statement_by at k.Typedef = skipped_by at k.Typedef
  plain_statement_by at k.Attribute = skipped_by at k.Attribute
  plain_statement_by at k.TypeWord = declaration at
  plain_statement_by at k.Qualifier = declaration at
  plain_statement_by at k.Struct = declaration at
  plain_statement_by at _ = expressed at

  -- what begins with a name and has no statement in it
  unfoldable pub plain_named : Place → Parser Statement
  plain_named at = λ i.
      if begins_name_label i then (do w ← word k.Name; expect k.Colon; pure (made.Label at w)) i
      else (if begins_leave i then (do take_token; expect k.Semicolon; pure (made.Leave at)) i
      else (if begins_declaration i then declaration at i
      else (if is_macro i then (do w ← word k.Name; es ← arguments; pure (made.Macro at w es)) i
      else expressed at i)))

-- ---- statements; `inner` reads those that are nested in them

module _ (known : List Class) (depth : ℕ) (inner : Nest → Parser (List Statement)) where
  -- "else" "if" "(" expr ")" body, if that stands here
  unfoldable pub else_if : Parser (Option Branch)
  else_if = λ i.
      if sees k.Else i && sees k.If (next i)
      then (do take_token; take_token; e ← tested known depth; ss ← inner nests.Body; pure (Some (branch e ss))) i
      else Ok (None, i)

  -- [ "else" body ]
  unfoldable pub otherwise : Parser (List Statement)
  otherwise = do
    found ← eat k.Else
    if found then inner nests.Body else pure []

  -- behind "if"
  unfoldable pub choice : Place → Parser Statement
  choice at = do
    e ← tested known depth
    ss ← inner nests.Body
    bs ← many else_if
    os ← otherwise
    pure (made.If at (branch e ss ∷ bs) os)

  -- behind "for"
  unfoldable pub counting : Place → Parser Statement
  counting at = do
    expect k.OpenParen
    f ← first known depth
    c ← optional known depth k.Semicolon
    s ← optional known depth k.CloseParen
    made.For at f c s <$> inner nests.Body

  -- behind "do"
  unfoldable pub repetition : Place → Parser Statement
  repetition at = do
    ss ← inner nests.Body
    expect k.While
    e ← tested known depth
    expect k.Semicolon
    pure (made.Do at ss e)

  -- what stands behind the body of a `__try`
  abbrev pub handler_by : Place → List Statement → Kind → Parser Statement
  handler_by at ss k.Finally = take_token >> made.Finally at ss <$> inner nests.Body
  handler_by at ss k.Except = do take_token; e ← tested known depth; made.Except at ss e <$> inner nests.Body
  handler_by at ss _ = refuse

  -- behind "__try"
  unfoldable pub guarded : Place → Parser Statement
  guarded at = do
    ss ← inner nests.Body
    peek >>= handler_by at ss

  -- another branch of a group of #if, if one stands here
  unfoldable pub else_branch : Parser (Option Branch)
  else_branch = λ i.
      if sees k.GroupElse i
      then (do w ← word k.GroupElse; ss ← inner nests.Branch; pure (Some (branches.Directive w ss))) i
      else Ok (None, i)

  -- a group of #if
  unfoldable pub directed : Place → Parser Statement
  directed at = do
    w ← word k.GroupIf
    ss ← inner nests.Branch
    bs ← many else_branch
    expect k.GroupEnd
    pure (made.Group at (branches.Directive w ss ∷ bs))

  -- what begins with a name
  unfoldable pub named : Place → Parser Statement
  named at = λ i.
      if begins_loop i then (do w ← word k.Name; es ← arguments known depth; made.Loop at w es <$> inner nests.Body) i
      else plain_named known depth at i

  -- "while" or "switch" "(" expr ")" body
  abbrev pub conditional_by : Place → Kind → Parser Statement
  conditional_by at kind = do take_token; e ← tested known depth; conditional_of at kind e <$> inner nests.Body

  abbrev pub statement_by : Place → Kind → Parser Statement
  statement_by at k.Name = named at
  statement_by at k.OpenBrace = made.Block at <$> inner nests.Body
  statement_by at k.If = take_token >> choice at
  statement_by at k.While = conditional_by at k.While
  statement_by at k.Switch = conditional_by at k.Switch
  statement_by at k.Do = take_token >> repetition at
  statement_by at k.For = take_token >> counting at
  statement_by at k.Try = take_token >> guarded at
  statement_by at k.GroupIf = directed at
  statement_by at kind = plain_statement_by known depth at kind

  unfoldable pub statement : Parser Statement
  statement = λ i. statement_by (place i) (kind i) i

  -- a statement, if the list doesn't end here
  unfoldable pub next_statement : Parser (Option Statement)
  next_statement = λ i. if ends_list (kind i) then Ok (None, i) else (Some <$> statement) i

  -- a block, or one statement that no label stands before
  unfoldable pub body : Parser (List Statement)
  body = λ i.
      if sees k.OpenBrace i then (do expect k.OpenBrace; ss ← many next_statement; expect k.CloseBrace; pure ss) i
      else (if begins_label_by (kind i) i then refuse i else ((λ s. s ∷ []) <$> statement) i)

  abbrev pub nested_as : Nest → Parser (List Statement)
  nested_as nests.Body = body
  nested_as nests.Branch = many next_statement

-- statements in which blocks and brackets nest no deeper than the number, themselves counted
unfoldable pub nested : List Class → ℕ → Nest → Parser (List Statement)
nested known zero nest = fail reasons.TooDeep
nested known (suc depth) nest = nested_as known depth (nested known depth) nest

-- how deep they may nest
abbrev pub max_depth : ℕ
max_depth = 128

-- the end, which stays
unfoldable pub end : Parser (Unit {0})
end = λ i. if sees k.End i then Ok (tt, i) else refuse i

-- a block and the end
unfoldable pub function_body : List Class → Parser (List Statement)
function_body known = λ i.
    if sees k.OpenBrace i
    then (do ss ← nested known max_depth nests.Body; end; pure ss) i
    else refuse i
