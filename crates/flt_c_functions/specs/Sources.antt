-- Files of one driver: what their tokens are once headers are read and macros are expanded, by one table of texts, and their items. This
-- project's own rule.
use Rattle.std.specs.List.{ends_with}
use Rattle.std.specs.Prelude.{◌≡◌, ℕ, ◌+◌, ◌⊎◌, Bool, true, false, ◌||◌, eqb, List, [], ◌∷◌, ◌++◌, codes, map, slice_index_or, Ok, Err}
use Rattle.flt_c_tokens.specs.Bytes.{Text}
use Rattle.flt_c_tokens.specs.Spelled.{number_of}
use Rattle.flt_c_tokens.specs.Tokens.{IsExcess}
use Rattle.flt_c_tokens.specs.Vocabulary.{known_words}
use Rattle.flt_c_tokens.specs.declared.lexer.Excess.{Excess}
use Rattle.flt_c_tokens.specs.declared.lexer.Excess.TheVariants.{TooManySpellings}
use Rattle.flt_c_tokens.specs.declared.token.Kind.{Kind}
use Rattle.flt_c_tokens.specs.declared.token.Kind.TheVariants as k
use Rattle.flt_c_tokens.specs.declared.token.Token.{Token}
use Rattle.flt_c_headers.specs.Files.{Fits, texts_after, tokens_after}
use Rattle.flt_c_headers.specs.Reading.{AreIncluded, Giving, IsUnincluded}
use Rattle.flt_c_headers.specs.World.{World, no_headers}
use Rattle.flt_c_items.specs.Items.{items}
use Rattle.flt_c_items.specs.declared.words.Words.{Words}
use Rattle.flt_c_macros.specs.States.{Outcome}
use Rattle.flt_c_macros.specs.Whole.{whole}
use Rattle.flt_c_macros.specs.declared.whole.Expansion.{Expansion}
use Rattle.flt_c_functions.specs.Constants.{kept}
use Rattle.flt_c_functions.specs.declared.source.Source.{Source}

-- the words that say what an item is, by the places of their texts in a table; a text that isn't there has a place that no token has
unfoldable pub words_of : List Text → Words
words_of texts =
    record {
      linkage = number_of texts (codes "extern");
      namespace = number_of texts (codes "namespace");
      internal = number_of texts (codes "static");
      nothing = number_of texts (codes "void");
      no_value = number_of texts (codes "VOID");
      operations = number_of texts (codes "FLT_OPERATION_REGISTRATION");
      contexts = number_of texts (codes "FLT_CONTEXT_REGISTRATION");
      registration = number_of texts (codes "FLT_REGISTRATION");
    }

-- ---- tokens

-- the table behind texts that follow each other, and their tokens
abbrev pub texts_behind : List Text → List Text → List Text
texts_behind known [] = known
texts_behind known (z ∷ zs) = texts_behind (texts_after known z) zs

abbrev pub tokens_behind : List Text → List Text → List Token
tokens_behind known [] = []
tokens_behind known (z ∷ zs) = tokens_after known z ++ tokens_behind (texts_after known z) zs

-- none of them is too large, and the texts of each have room in the table
abbrev pub Fit : List Text → List Text → Type 0
Fit known [] = Unit {0}
Fit known (z ∷ zs) = Fits known z × Fit (texts_after known z) zs

-- why the first of them that has no tokens has none
abbrev pub AreUnfit : List Text → List Text → Excess → Type 0
AreUnfit known [] excess = ⊥
AreUnfit known (z ∷ zs) excess = IsExcess known z excess ⊎ (Fits known z × AreUnfit (texts_after known z) zs excess)

-- ---- languages

-- a file is C++ by its name; all others are C
abbrev pub is_cpp : Text → Bool
is_cpp name = ends_with eqb name (codes ".cc") || ends_with eqb name (codes ".cpp")

-- in C a word of C++, as `new`, is a name
abbrev pub kind_in_c : Kind → Kind
kind_in_c k.CPlusPlus = k.Name
kind_in_c kind = kind

abbrev pub in_c : Token → Token
in_c t = record t { kind = kind_in_c t.kind }

abbrev pub in_language : Bool → List Token → List Token
in_language true ts = ts
in_language false ts = map in_c ts

-- the same of the tokens of headers
abbrev pub all_in_language : Bool → List (List Token) → List (List Token)
all_in_language true tss = tss
all_in_language false tss = map (map in_c) tss

-- ---- one file

-- the table of texts behind some files, and their headers
pub record Known : Type 0 where
  pub texts : List Text
  pub headers : World

-- the words of C, and no headers
unfoldable pub nothing_known : Known
nothing_known = record { texts = known_words; headers = no_headers }

-- what is read for a file: lines of directives, and its bytes
abbrev pub read_for : List Text → Text → List Text
read_for lines file = lines ++ file ∷ []

-- its own tokens, and the table behind them
abbrev pub own_tokens : List Text → List Text → Text → List Token
own_tokens lines texts file = tokens_after (texts_behind texts lines) file

abbrev pub texts_of : List Text → List Text → Text → List Text
texts_of lines texts file = texts_behind texts (read_for lines file)

-- The tokens of lines, and then of a file with headers in the place of their names, which may be in some folders; with the table and the
-- headers behind them.
pub record Links (gives : Giving) (folders lines : List Text) (known : Known) (name file : Text) (linked : List Token)
    (next : Known) : Type 0 where
  pub fit : Fit known.texts (read_for lines file)
  pub own : List Token
  pub included : AreIncluded gives folders name file (own_tokens lines known.texts file) (texts_of lines known.texts file) known.headers own
      next.texts next.headers
  pub tokens : linked ≡ tokens_behind known.texts lines ++ own

-- Tokens and headers without directives, macros expanded, and the table with the texts of conditions; or the place of the directive where
-- that would have too many. Names of constants stay.
abbrev pub expanded : List Text → List (List Token) → List Token → Outcome (List Text × Expansion)
expanded texts headers tokens = whole (kept texts headers tokens) headers tokens texts

-- those of a file of this name
unfoldable pub expansion : Text → List Token → Known → Outcome (List Text × Expansion)
expansion name linked known =
    expanded known.texts (all_in_language (is_cpp name) known.headers.tokens) (in_language (is_cpp name) linked)

-- this is read of a file of a name behind some lines, from one table to the next
pub record Expands (gives : Giving) (folders lines : List Text) (known : Known) (name file : Text) (next : Known)
    (e : Expansion) : Type 0 where
  pub linked : List Token
  pub texts : List Text
  pub links : Links gives folders lines known name file linked (record { texts = texts; headers = next.headers })
  pub expands : expansion name linked (record { texts = texts; headers = next.headers }) ≡ Ok (next.texts, e)

-- a file of this name, of which this is read, by the table behind it
pub record IsSource (texts : List Text) (name : Text) (e : Expansion) (s : Source) : Type 0 where
  pub name_is : s.name.now ≡ name
  pub words_are : s.words ≡ words_of texts
  pub tokens : s.tokens ≡ e.tokens
  pub notes : s.notes ≡ e.notes
  pub headers : s.headers ≡ e.headers
  pub items_are : s.items ≡ items (words_of texts) e.tokens

pub record IsRead (gives : Giving) (folders lines : List Text) (known : Known) (name file : Text) (next : Known) (s : Source) : Type 0 where
  pub tokens : Expansion
  pub read : Expands gives folders lines known name file next tokens
  pub is : IsSource next.texts name tokens s

-- where a directive would have too many texts
abbrev pub IsPlace : Outcome (List Text × Expansion) → Excess → Type 0
IsPlace (Err place) (TooManySpellings line column) = (line ≡ place.0) × (column ≡ place.1)
IsPlace outcome excess = ⊥

-- the words of a header have no room in the table
pub record IsUnlinked (gives : Giving) (folders lines : List Text) (known : Known) (name file : Text) (excess : Excess) : Type 0 where
  pub fit : Fit known.texts (read_for lines file)
  pub stops : IsUnincluded gives folders name file (own_tokens lines known.texts file) (texts_of lines known.texts file) known.headers
      excess

-- a directive would have too many texts
pub record IsUnexpanded (gives : Giving) (folders lines : List Text) (known : Known) (name file : Text) (excess : Excess) : Type 0 where
  pub linked : List Token
  pub next : Known
  pub links : Links gives folders lines known name file linked next
  pub stops : IsPlace (expansion name linked next) excess

-- why a file isn't read: it, or a line, or a header has no tokens; or a directive would have too many texts
abbrev pub IsUnread : Giving → List Text → List Text → Known → Text → Text → Excess → Type 0
IsUnread gives folders lines known name file excess =
    AreUnfit known.texts (read_for lines file) excess
    ⊎ (IsUnlinked gives folders lines known name file excess ⊎ IsUnexpanded gives folders lines known name file excess)

-- ---- several files

-- the name of a number
abbrev pub name_at : List Text → ℕ → Text
name_at names number = slice_index_or names number []

-- files are read behind the same lines, one after the other; the first has the number `at`
pub data AreRead (gives : Giving) (folders lines names : List Text) : ℕ → Known → List Text → Known → List Source → Type 0 where
  nothing : {at : ℕ} {known : Known} → AreRead gives folders lines names at known [] known []
  one_more : {at : ℕ} {known next last : Known} {file : Text} {files : List Text} {s : Source} {ss : List Source} →
      IsRead gives folders lines known (name_at names at) file next s → AreRead gives folders lines names (at + 1) next files last ss →
      AreRead gives folders lines names at known (file ∷ files) last (s ∷ ss)

-- The file of a number is the first that isn't read, and why; the first of these files has the number `at`.
pub data IsFirstUnread (gives : Giving) (folders lines names : List Text) : ℕ → Known → List Text → ℕ → Excess → Type 0 where
  here : {at : ℕ} {known : Known} {file : Text} {files : List Text} {excess : Excess} →
      IsUnread gives folders lines known (name_at names at) file excess →
      IsFirstUnread gives folders lines names at known (file ∷ files) at excess
  behind : {at number : ℕ} {known next : Known} {file : Text} {files : List Text} {e : Expansion} {excess : Excess} →
      Expands gives folders lines known (name_at names at) file next e →
      IsFirstUnread gives folders lines names (at + 1) next files number excess →
      IsFirstUnread gives folders lines names at known (file ∷ files) number excess

-- ---- steps of reading

-- the tokens of several texts are added to others
pub record AddsAll (known : List Text) (zs : List Text) (before : List Token) (next : List Text) (after : List Token) : Type 0 where
  pub fit : Fit known zs
  pub texts : next ≡ texts_behind known zs
  pub tokens : after ≡ before ++ tokens_behind known zs

-- tokens of a file of a name are expanded to these, or not at all
abbrev pub Gives : Text → List Token → Known → List Text → Expansion → Type 0
Gives name linked known next e = expansion name linked known ≡ Ok (next, e)

abbrev pub Stops : Text → List Token → Known → Excess → Type 0
Stops name linked known excess = IsPlace (expansion name linked known) excess

-- a file is read, and added to others
pub record AddsSource (gives : Giving) (folders lines : List Text) (known : Known) (name file : Text) (before : List Source) (next : Known)
    (after : List Source) : Type 0 where
  pub one : Source
  pub read : IsRead gives folders lines known name file next one
  pub sources : after ≡ before ++ one ∷ []
