-- The words of C, of Microsoft's C and of C++ that are more than names, each with its kind.
use Rattle.std.specs.Prelude.{ℕ, List, [], ◌∷◌, ◌++◌, codes, map, slice_index_or, if◌then◌else◌}
use Rattle.std.specs.Str.{bytes_eq}
use Rattle.flt_c_tokens.specs.Bytes.{Text}
use Rattle.flt_c_tokens.specs.declared.token.Kind.{Kind}
use Rattle.flt_c_tokens.specs.declared.token.Kind.TheVariants as k

-- the text of what has no spelling, and the name that excpt.h has for `__leave`
abbrev pub unspelled_words : List (Text × Kind)
unspelled_words =
    ([], k.Name) ∷
    (codes "leave", k.Name) ∷ []

-- statements
abbrev pub statement_words : List (Text × Kind)
statement_words =
    (codes "if", k.If) ∷
    (codes "else", k.Else) ∷
    (codes "while", k.While) ∷
    (codes "do", k.Do) ∷
    (codes "for", k.For) ∷
    (codes "switch", k.Switch) ∷
    (codes "case", k.Case) ∷
    (codes "default", k.Default) ∷
    (codes "goto", k.Goto) ∷
    (codes "return", k.Return) ∷
    (codes "break", k.Break) ∷
    (codes "continue", k.Continue) ∷
    (codes "__try", k.Try) ∷
    (codes "try", k.Try) ∷
    (codes "__finally", k.Finally) ∷
    (codes "finally", k.Finally) ∷
    (codes "__except", k.Except) ∷
    (codes "except", k.Except) ∷
    (codes "__leave", k.Leave) ∷ []

-- declarations and types
abbrev pub declaration_words : List (Text × Kind)
declaration_words =
    (codes "sizeof", k.Sizeof) ∷
    (codes "typedef", k.Typedef) ∷
    (codes "struct", k.Struct) ∷
    (codes "union", k.Struct) ∷
    (codes "enum", k.Struct) ∷
    (codes "void", k.TypeWord) ∷
    (codes "char", k.TypeWord) ∷
    (codes "short", k.TypeWord) ∷
    (codes "int", k.TypeWord) ∷
    (codes "long", k.TypeWord) ∷
    (codes "float", k.TypeWord) ∷
    (codes "double", k.TypeWord) ∷
    (codes "signed", k.TypeWord) ∷
    (codes "unsigned", k.TypeWord) ∷
    (codes "_Bool", k.TypeWord) ∷
    (codes "bool", k.TypeWord) ∷
    (codes "__int8", k.TypeWord) ∷
    (codes "__int16", k.TypeWord) ∷
    (codes "__int32", k.TypeWord) ∷
    (codes "__int64", k.TypeWord) ∷ []

-- words beside types
abbrev pub qualifying_words : List (Text × Kind)
qualifying_words =
    (codes "const", k.Qualifier) ∷
    (codes "volatile", k.Qualifier) ∷
    (codes "static", k.Qualifier) ∷
    (codes "register", k.Qualifier) ∷
    (codes "extern", k.Qualifier) ∷
    (codes "inline", k.Qualifier) ∷
    (codes "auto", k.Qualifier) ∷
    (codes "restrict", k.Qualifier) ∷
    (codes "__inline", k.Qualifier) ∷
    (codes "__forceinline", k.Qualifier) ∷
    (codes "__restrict", k.Qualifier) ∷
    (codes "_Noreturn", k.Qualifier) ∷
    (codes "__unaligned", k.Qualifier) ∷
    (codes "constexpr", k.Qualifier) ∷
    (codes "__cdecl", k.Qualifier) ∷
    (codes "__stdcall", k.Qualifier) ∷
    (codes "__fastcall", k.Qualifier) ∷
    (codes "__declspec", k.Attribute) ∷
    (codes "__attribute__", k.Attribute) ∷
    (codes "_Alignas", k.Attribute) ∷
    (codes "alignas", k.Attribute) ∷
    (codes "__pragma", k.Attribute) ∷ []

-- assembler, and C++
abbrev pub other_words : List (Text × Kind)
other_words =
    (codes "asm", k.Assembler) ∷
    (codes "__asm", k.Assembler) ∷
    (codes "__asm__", k.Assembler) ∷
    (codes "static_cast", k.Cast) ∷
    (codes "reinterpret_cast", k.Cast) ∷
    (codes "const_cast", k.Cast) ∷
    (codes "dynamic_cast", k.Cast) ∷
    (codes "new", k.CPlusPlus) ∷
    (codes "delete", k.CPlusPlus) ∷
    (codes "throw", k.CPlusPlus) ∷
    (codes "template", k.CPlusPlus) ∷
    (codes "typename", k.CPlusPlus) ∷
    (codes "class", k.CPlusPlus) ∷
    (codes "namespace", k.CPlusPlus) ∷
    (codes "operator", k.CPlusPlus) ∷
    (codes "using", k.CPlusPlus) ∷
    (codes "catch", k.CPlusPlus) ∷ []

-- all of them
abbrev pub vocabulary : List (Text × Kind)
vocabulary = unspelled_words ++ statement_words ++ declaration_words ++ qualifying_words ++ other_words

-- the kind that a table has for a word, else a name
abbrev pub lookup : List (Text × Kind) → Text → Kind
lookup [] w = k.Name
lookup (entry ∷ entries) w = if bytes_eq w entry.0 then entry.1 else lookup entries w

-- the kind of a word
unfoldable pub word_kind : Text → Kind
word_kind w = lookup vocabulary w

-- the kind of a word by its number, which is its place among these
unfoldable pub kind_at : ℕ → Kind
kind_at n = (slice_index_or vocabulary n ([], k.Name)).1

-- their texts
unfoldable pub known_words : List Text
known_words = map (λ e. e.0) vocabulary

-- the place of `leave` among them
abbrev pub leave : ℕ
leave = 1
