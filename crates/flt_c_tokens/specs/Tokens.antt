-- The tokens of a C file. The C standard's translation phases 2 and 3; this project's own are the kinds of what can't be read.
use Rattle.std.specs.Prelude.{◌≡◌, ℕ, ◌+◌, ◌-◌, ◌≤◌, ◌<◌, Bool, true, false, ◌||◌, if◌then◌else◌, ◌==◌, nat_lt}
use Rattle.std.specs.Prelude.{List, [], ◌∷◌, ◌++◌, length, take, map}
use Rattle.flt_c_tokens.specs.Bytes.{Text}
use Rattle.flt_c_tokens.specs.Fronts.{front}
use Rattle.flt_c_tokens.specs.Spelled.{with_text, number_of, has_text, max_spellings}
use Rattle.flt_c_tokens.specs.Vocabulary.{kind_at, word_kind}
use Rattle.flt_c_tokens.specs.declared.piece.Part.{Part}
use Rattle.flt_c_tokens.specs.declared.piece.Part.TheVariants.{Blank, Feed, Sign, Word}
use Rattle.flt_c_tokens.specs.declared.piece.Piece.{Piece}
use Rattle.flt_c_tokens.specs.declared.reading.Reading.{Reading}
use Rattle.flt_c_tokens.specs.declared.token.Kind.{Kind}
use Rattle.flt_c_tokens.specs.declared.token.Kind.TheVariants as k
use Rattle.flt_c_tokens.specs.declared.token.Token.{Token}
use Rattle.flt_c_tokens.specs.declared.lexer.Excess.{Excess}
use Rattle.flt_c_tokens.specs.declared.lexer.Excess.TheVariants.{LargeFile, TooManySpellings}

-- ---- tokens with their texts

-- a token with its text, which is empty where it has no spelling
pub record Lexeme : Type 0 where
  pub kind : Kind
  pub is_glued : Bool
  pub text : Text
  pub start : ℕ
  pub line : ℕ
  pub column : ℕ

-- a token that begins here
abbrev pub lexeme : Reading → Kind → Text → Lexeme
lexeme at kind text =
    record { kind = kind; is_glued = at.is_glued; text = text; start = at.start; line = at.line; column = at.column }

-- a `#` that is the first token of its line
abbrev pub is_directive : Reading → Kind → Bool
is_directive at k.Hash = at.is_fresh
is_directive at _ = false

abbrev pub sign_kind : Reading → Kind → Kind
sign_kind at kind = if is_directive at kind then k.Directive else kind

-- names may be words of C
abbrev pub spelled_kind : Kind → Text → Kind
spelled_kind k.Name text = word_kind text
spelled_kind kind text = kind

-- a word that stands here
abbrev pub word_here : Reading → Kind → Text → List Lexeme
word_here at kind text = lexeme at (spelled_kind kind text) text ∷ []

-- the token that ends the line of a directive
abbrev pub line_end : Reading → List Lexeme
line_end at = if at.in_directive then lexeme at k.LineEnd [] ∷ [] else []

-- the tokens that a piece is, of which this is the text
abbrev pub lexemes_of : Reading → Part → Text → List Lexeme
lexemes_of at Blank text = []
lexemes_of at Feed text = line_end at
lexemes_of at (Sign kind) text = lexeme at (sign_kind at kind) [] ∷ []
lexemes_of at (Word kind) text = word_here at kind text

unfoldable pub lexemes : Reading → Piece → Text → List Lexeme
lexemes at piece z = lexemes_of at piece.part (take piece.length z)

-- ---- where reading is

-- at the first byte nothing comes before it; a line feed there makes no token with what follows
unfoldable pub first : Reading
first =
    record {
      left = 0;
      is_glued = true;
      is_fresh = true;
      in_directive = false;
      last = 10;
      start = 0;
      line = 1;
      column = 1;
    }

-- a piece that is no token
abbrev pub over : Reading → Bool → Bool → ℕ → Reading
over at is_fresh in_directive n =
    record {
      left = n;
      is_glued = false;
      is_fresh = is_fresh;
      in_directive = in_directive;
      last = at.last;
      start = at.start;
      line = at.line;
      column = at.column;
    }

-- a piece that is a token
abbrev pub over_token : Reading → Bool → ℕ → Reading
over_token at in_directive n =
    record {
      left = n;
      is_glued = true;
      is_fresh = false;
      in_directive = in_directive;
      last = at.last;
      start = at.start;
      line = at.line;
      column = at.column;
    }

-- a piece begins here: its bytes are left, and it says what the next one comes after; only a line feed of its own ends a line
abbrev pub over_part : Reading → Part → ℕ → Reading
over_part at Blank n = over at at.is_fresh at.in_directive n
over_part at Feed n = over at true false n
over_part at (Sign kind) n = over_token at (at.in_directive || is_directive at kind) n
over_part at (Word kind) n = over_token at at.in_directive n

unfoldable pub behind : Reading → Piece → Reading
behind at piece = over_part at piece.part piece.length

-- one byte more of a piece; a line feed ends a line, wherever it stands
unfoldable pub past : ℕ → Reading → Reading
past b at =
    record {
      left = at.left - 1;
      is_glued = at.is_glued;
      is_fresh = at.is_fresh;
      in_directive = at.in_directive;
      last = b;
      start = at.start + 1;
      line = if b == 10 then at.line + 1 else at.line;
      column = if b == 10 then 1 else at.column + 1;
    }

-- ---- files

-- the end of a file ends its last line
abbrev pub lexemes_at_end : Reading → List Lexeme
lexemes_at_end at = line_end at ++ lexeme at k.End [] ∷ []

-- the tokens of the rest of a file, from where reading is
abbrev pub lexemes_from : Reading → Text → List Lexeme
lexemes_from at [] = lexemes_at_end at
lexemes_from at (b ∷ z) =
    if nat_lt 0 at.left then lexemes_from (past b at) z
    else (let piece = front at.is_glued at.last (b ∷ z) in lexemes at piece (b ∷ z) ++ lexemes_from (past b (behind at piece)) z)

unfoldable pub tokens : Text → List Lexeme
tokens file = lexemes_from first file

-- ---- tokens with the numbers of their texts

-- the table with the texts of tokens
abbrev pub with_texts : List Text → List Lexeme → List Text
with_texts known [] = known
with_texts known (x ∷ xs) = with_texts (with_text known x.text) xs

-- a token, by the table that has its text
abbrev pub numbered : List Text → Lexeme → Token
numbered known x =
    record {
      kind = x.kind;
      is_glued = x.is_glued;
      word = number_of known x.text;
      start = x.start;
      line = x.line;
      column = x.column;
    }

-- a token that begins here, with the number of its text
abbrev pub token_at : Reading → Kind → ℕ → Token
token_at at kind word =
    record { kind = kind; is_glued = at.is_glued; word = word; start = at.start; line = at.line; column = at.column }

-- tokens, each by the table that has the texts up to its own
abbrev pub numbered_on : List Text → List Lexeme → List Token
numbered_on known [] = []
numbered_on known (x ∷ xs) = numbered (with_text known x.text) x ∷ numbered_on (with_text known x.text) xs

-- the tokens of a file, with the numbers that their texts have in a table to which they were added
pub record AreTokens (known next : List Text) (file : Text) (ts : List Token) : Type 0 where
  pub spelled : next ≡ with_texts known (tokens file)
  pub read : ts ≡ map (numbered next) (tokens file)

-- ---- limits

-- the most bytes that a file has
abbrev pub max_file : ℕ
max_file = 16777216

-- a word at a place is the first for which a table that has those before it has no room
pub record IsOverfull (known : List Text) (file : Text) (line column : ℕ) : Type 0 where
  pub before : List Lexeme
  pub word : Lexeme
  pub after : List Lexeme
  pub parts : tokens file ≡ before ++ word ∷ after
  pub full : length (with_texts known before) ≡ max_spellings
  pub unknown : has_text (with_texts known before) word.text ≡ false
  pub same_line : line ≡ word.line
  pub same_column : column ≡ word.column

-- why a file has no tokens
abbrev pub IsExcess : List Text → Text → Excess → Type 0
IsExcess known file LargeFile = max_file < length file
IsExcess known file (TooManySpellings line column) = (length file ≤ max_file) × IsOverfull known file line column

-- ---- steps of reading

-- the kind of a word by its number
abbrev pub kind_by_number : Kind → ℕ → Kind
kind_by_number k.Name n = kind_at n
kind_by_number kind n = kind

-- the token that ends the line of a directive
abbrev pub line_end_at : Reading → List Token
line_end_at at = if at.in_directive then token_at at k.LineEnd 0 ∷ [] else []

-- the tokens at the end of a file
abbrev pub tokens_at_end : Reading → List Token
tokens_at_end at = line_end_at at ++ token_at at k.End 0 ∷ []

-- tokens are added, and their texts
abbrev pub Adds : List Text → List Text → List Lexeme → List Token → List Token → Type 0
Adds known next xs ts us = (next ≡ with_texts known xs) × (us ≡ ts ++ numbered_on known xs)

-- a table has no room for the text of a token that is the first
abbrev pub IsFull : List Text → List Lexeme → Excess → Type 0
IsFull known [] excess = ⊥
IsFull known (x ∷ xs) LargeFile = ⊥
IsFull known (x ∷ xs) (TooManySpellings line column) =
    (length known ≡ max_spellings) × (has_text known x.text ≡ false) × (line ≡ x.line) × (column ≡ x.column)
