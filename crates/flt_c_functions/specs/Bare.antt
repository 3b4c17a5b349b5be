-- Tables that are declared without rows. This project's own rule.
use Rattle.std.specs.Prelude.{ℕ, ◌==◌, Bool, true, false, ◌||◌, if◌then◌else◌, List, [], ◌∷◌, ◌++◌, codes, Option, Some, None}
use Rattle.flt_c_headers.specs.World.{File}
use Rattle.flt_c_tokens.specs.Bytes.{Text}
use Rattle.flt_c_tokens.specs.declared.token.Kind.{Kind}
use Rattle.flt_c_tokens.specs.declared.token.Kind.TheVariants as k
use Rattle.flt_c_tokens.specs.declared.token.Token.{Token}
use Rattle.flt_c_items.specs.declared.item.TableKind.{TableKind}
use Rattle.flt_c_items.specs.declared.item.TableKind.TheVariants as table
use Rattle.flt_c_items.specs.declared.words.Words.{Words}
use Rattle.flt_c_functions.specs.Lines.{kind_words, place}
use Rattle.flt_c_functions.specs.Places.{file_name}
use Rattle.flt_c_functions.specs.Texts.{token_text}
use Rattle.flt_c_functions.specs.declared.bare.Bare.{Bare}

-- the kind of table that a word names
abbrev pub table_kind : Words → ℕ → Option TableKind
table_kind words w =
    if w == words.operations then Some table.Operations
    else (if w == words.contexts then Some table.Contexts
    else (if w == words.registration then Some table.Registration else None))

abbrev pub is_name : Kind → Bool
is_name k.Name = true
is_name _ = false

-- a table stands before all brackets, and isn't `extern` or a `typedef`
abbrev pub is_bound : Kind → Bool
is_bound k.OpenParen = true
is_bound k.OpenBrace = true
is_bound k.Typedef = true
is_bound _ = false

abbrev pub stops : Words → Token → Bool
stops words t = is_bound t.kind || t.word == words.linkage

-- a name behind the word is the table's
abbrev pub named_by : Option TableKind → List Token → Option Bare
named_by None ts = None
named_by (Some kind) [] = None
named_by (Some kind) (t ∷ ts) = if is_name t.kind then Some (record { kind = kind; name = t }) else None

abbrev pub named : Words → ℕ → List Token → Option Bare
named words w ts = named_by (table_kind words w) ts

abbrev pub or_else : Option Bare → Option Bare → Option Bare
or_else None more = more
or_else (Some b) more = Some b

-- the table that a declaration has
abbrev pub bare_table : Words → List Token → Option Bare
bare_table words [] = None
bare_table words (t ∷ ts) = if stops words t then None else or_else (named words t.word ts) (bare_table words ts)

-- its line, at its name
unfoldable pub bare_line : List Text → Text → Bare → Text
bare_line texts name b =
    place name b.name
    ++ (codes "table " ++ (token_text texts b.name ++ (codes ": " ++ (kind_words b.kind ++ codes ", whose rows are not here\n"))))

abbrev pub bare_text : List Text → List File → Text → Option Bare → Text
bare_text texts headers name None = []
bare_text texts headers name (Some b) = bare_line texts (file_name headers name b.name) b
