-- Groups in brackets that are not looked at, and what declarations and labels begin with.
use Rattle.std.specs.Prelude.{ℕ, suc, Bool, true, false, not, ◌&&◌, ◌||◌, ◌==◌, ◌-◌, if◌then◌else◌, nat_lt, [], ◌∷◌, Option, Some, None}
use Rattle.flt_c_tokens.specs.Vocabulary.{leave}
use Rattle.flt_c_tokens.specs.declared.token.Kind.{Kind}
use Rattle.flt_c_tokens.specs.declared.token.Kind.TheVariants as k
use Rattle.flt_c_tokens.specs.declared.token.Token.{Token}
use Rattle.flt_c_syntax.specs.Tokens.{Input, front, kind, next, sees, is_type_part, behind}
use Rattle.flt_c_syntax.specs.declared.class.Part.TheVariants as parts

-- brackets of each kind count alike
abbrev pub opens : Kind → Bool
opens k.OpenParen = true
opens k.OpenBracket = true
opens k.OpenBrace = true
opens _ = false

abbrev pub closes : Kind → Bool
closes k.CloseParen = true
closes k.CloseBracket = true
closes k.CloseBrace = true
closes _ = false

-- what no group has: the end, what can't be read, and groups of #if
abbrev pub ends_groups : Kind → Bool
ends_groups k.End = true
ends_groups k.Stray = true
ends_groups k.Unclosed = true
ends_groups k.Joined = true
ends_groups k.OpenComment = true
ends_groups k.GroupIf = true
ends_groups k.GroupElse = true
ends_groups k.GroupEnd = true
ends_groups _ = false

-- What is left behind the bracket that closes the last of the deep ones, of which there are so many; nothing if they don't close.
abbrev pub behind_open : ℕ → Input → Option Input
behind_open deep [] = None
behind_open deep (t ∷ i) =
    if ends_groups t.kind then None
    else (if opens t.kind then behind_open (suc deep) i
    else (if closes t.kind then (if nat_lt 1 deep then behind_open (deep - 1) i else Some i)
    else behind_open deep i))

-- what is left behind a group that begins here
unfoldable pub behind_group : Input → Option Input
behind_group i = if opens (kind i) then behind_open 0 i else None

-- what is left behind the semicolon that ends a run, outside brackets
abbrev pub behind_run : ℕ → Input → Option Input
behind_run deep [] = None
behind_run deep (t ∷ i) =
    if ends_groups t.kind then None
    else (if opens t.kind then behind_run (suc deep) i
    else (if closes t.kind then (if deep == 0 then None else behind_run (deep - 1) i)
    else (if deep == 0 && sees k.Semicolon (t ∷ i) then Some i else behind_run deep i)))

unfoldable pub behind_semicolon : Input → Option Input
behind_semicolon i = behind_run 0 i

-- ---- what declarations begin with

-- what follows a name that is a word of a declaration, and no declared name
abbrev pub follows_specifier : Kind → Bool
follows_specifier k.Name = true
follows_specifier k.TypeWord = true
follows_specifier k.Qualifier = true
follows_specifier k.Struct = true
follows_specifier k.Attribute = true
follows_specifier k.Star = true
follows_specifier k.OpenBrace = true
follows_specifier _ = false

-- what follows a declared name
abbrev pub follows_declared : Kind → Bool
follows_declared k.Assign = true
follows_declared k.Semicolon = true
follows_declared k.Comma = true
follows_declared k.OpenBracket = true
follows_declared _ = false

-- NAME stars NAME, and what follows a declared name
abbrev pub is_starred : Input → Bool
is_starred i = let j = behind parts.Star i in sees k.Star i && sees k.Name j && follows_declared (kind (next j))

abbrev pub begins_declaration_by : Kind → Input → Bool
begins_declaration_by k.TypeWord i = true
begins_declaration_by k.Qualifier i = true
begins_declaration_by k.Struct i = true
begins_declaration_by k.Name i = is_type_part (kind i) || is_starred i
begins_declaration_by _ i = false

-- a word of a type, two names, or a name, stars, a name and what follows a declared name
unfoldable pub begins_declaration : Input → Bool
begins_declaration i = begins_declaration_by (kind i) (next i)

-- ---- statements that begin with a name

-- NAME ":"
abbrev pub begins_name_label : Input → Bool
begins_name_label i = sees k.Name i && sees k.Colon (next i)

-- `leave ;`
abbrev pub begins_leave : Input → Bool
begins_leave i = sees k.Name i && (front i).word == leave && sees k.Semicolon (next i)

-- what stands behind `NAME (..)`
abbrev pub behind_call : Input → Option Input
behind_call i = if sees k.Name i && sees k.OpenParen (next i) then behind_group (next i) else None

-- What begins a statement and can't go on with an expression. A statement behind a macro begins so on a later line.
abbrev pub begins_anew : Kind → Bool
begins_anew k.Name = true
begins_anew k.If = true
begins_anew k.While = true
begins_anew k.Do = true
begins_anew k.For = true
begins_anew k.Switch = true
begins_anew k.Case = true
begins_anew k.Default = true
begins_anew k.Goto = true
begins_anew k.Return = true
begins_anew k.Break = true
begins_anew k.Continue = true
begins_anew k.Leave = true
begins_anew k.Try = true
begins_anew k.Typedef = true
begins_anew k.TypeWord = true
begins_anew k.Qualifier = true
begins_anew k.Struct = true
begins_anew k.CloseBrace = true
begins_anew k.GroupIf = true
begins_anew k.GroupElse = true
begins_anew k.GroupEnd = true
begins_anew _ = false

abbrev pub is_macro_before : Token → Option Input → Bool
is_macro_before t None = false
is_macro_before t (Some j) = begins_anew (kind j) && nat_lt t.line (front j).line

-- `NAME (..)` without a semicolon
unfoldable pub is_macro : Input → Bool
is_macro i = is_macro_before (front i) (behind_call i)

abbrev pub is_block_behind : Option Input → Bool
is_block_behind None = false
is_block_behind (Some j) = sees k.OpenBrace j

-- `NAME (..) {`
unfoldable pub is_macro_loop : Input → Bool
is_macro_loop i = is_block_behind (behind_call i)

-- `NAME (..) {`, if it is no label, no jump and no declaration
abbrev pub begins_loop : Input → Bool
begins_loop i = not (begins_name_label i) && not (begins_leave i) && not (begins_declaration i) && is_macro_loop i

-- ---- lists of statements

-- what ends a list of statements
abbrev pub ends_list : Kind → Bool
ends_list k.CloseBrace = true
ends_list k.GroupElse = true
ends_list k.GroupEnd = true
ends_list k.End = true
ends_list _ = false

-- what labels a statement, or stands before one without being one
abbrev pub begins_label_by : Kind → Input → Bool
begins_label_by k.Case i = true
begins_label_by k.Default i = true
begins_label_by k.Attribute i = true
begins_label_by k.Name i = begins_name_label i
begins_label_by _ i = false

-- what begins a statement that is an expression, but for names
abbrev pub begins_expression : Kind → Bool
begins_expression k.Name = false
begins_expression k.Semicolon = false
begins_expression k.OpenBrace = false
begins_expression k.If = false
begins_expression k.While = false
begins_expression k.Do = false
begins_expression k.For = false
begins_expression k.Switch = false
begins_expression k.Case = false
begins_expression k.Default = false
begins_expression k.Goto = false
begins_expression k.Return = false
begins_expression k.Break = false
begins_expression k.Continue = false
begins_expression k.Leave = false
begins_expression k.Try = false
begins_expression k.Typedef = false
begins_expression k.Attribute = false
begins_expression k.GroupIf = false
begins_expression k.TypeWord = false
begins_expression k.Qualifier = false
begins_expression k.Struct = false
begins_expression _ = true
