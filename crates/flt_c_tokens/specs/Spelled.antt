-- Tables of spellings: texts in the order in which they were first met, each once, the words of C first.
use Rattle.std.specs.Prelude.{◌≡◌, ℕ, Bool, true, false, if◌then◌else◌, List, [], ◌∷◌, ◌++◌, length, max, take, Option, Some, None}
use Rattle.std.specs.List.{list_any, position_or_len}
use Rattle.std.specs.Str.{bytes_eq}
use Rattle.flt_c_tokens.specs.Bytes.{Text}
use Rattle.flt_c_tokens.specs.Vocabulary.{known_words, kind_at, word_kind}

-- the most spellings that a table has
abbrev pub max_spellings : ℕ
max_spellings = 1048576

-- a text is in a table
abbrev pub has_text : List Text → Text → Bool
has_text known w = list_any (bytes_eq w) known

-- the table with a text
unfoldable pub with_text : List Text → Text → List Text
with_text known w = if has_text known w then known else known ++ w ∷ []

-- the place of a text in a table
unfoldable pub number_of : List Text → Text → ℕ
number_of known w = position_or_len (bytes_eq w) known

-- the first texts of a table, with all words of C
unfoldable pub first_texts : ℕ → List Text → List Text
first_texts count known = take (max count (length known_words)) known

-- the words of C stand first
pub record Knows (known : List Text) : Type 0 where
  pub more : List Text
  pub parts : known ≡ known_words ++ more

-- the number of a text that is in a table tells whether it is a word of C, and which
abbrev pub IsFound : List Text → Text → Option ℕ → Type 0
IsFound known w (Some n) = (has_text known w ≡ true) × (n ≡ number_of known w) × (kind_at n ≡ word_kind w)
IsFound known w None = has_text known w ≡ false

-- A text has a number, under which the table has it afterwards, and which tells whether it is a word of C; or the table is full.
abbrev pub IsNumbered : List Text → Text → Option ℕ → List Text → Type 0
IsNumbered known w (Some n) next =
    (next ≡ with_text known w) × (n ≡ number_of next w) × (kind_at n ≡ word_kind w)
IsNumbered known w None next = (next ≡ known) × (length known ≡ max_spellings) × (has_text known w ≡ false)
