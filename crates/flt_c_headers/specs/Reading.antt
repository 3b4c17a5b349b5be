-- What including headers makes of a file: its tokens with headers in the place of their names, and the tokens of these headers. This
-- project's own rule.
use Rattle.std.specs.Prelude.{◌≡◌, ℕ, ◌+◌, ◌≤◌, Bool, true, false, not, nat_le, List, [], ◌∷◌, ◌++◌, drop, length, map, slice_get, take}
use Rattle.std.specs.Prelude.{Option, Some, None}
use Rattle.std.specs.List.{prefix_len}
use Rattle.flt_c_tokens.specs.Bytes.{Text}
use Rattle.flt_c_tokens.specs.Tokens.{IsExcess}
use Rattle.flt_c_tokens.specs.declared.lexer.Excess.{Excess}
use Rattle.flt_c_tokens.specs.declared.token.Kind.{Kind}
use Rattle.flt_c_tokens.specs.declared.token.Kind.TheVariants as k
use Rattle.flt_c_tokens.specs.declared.token.Token.{Token}
use Rattle.flt_c_headers.specs.Candidates.{candidates_if}
use Rattle.flt_c_headers.specs.Files.{Fits, texts_after, tokens_after}
use Rattle.flt_c_headers.specs.Inclusions.{inclusion}
use Rattle.flt_c_headers.specs.World.{File, World, answer_of, answer_to, can_be_asked, is_asked, with_answer, with_tokens}

-- what may be given for a name: its bytes, or none
abbrev pub Giving : Type 1
Giving = Text → Option Text → Type 0

-- ---- names

-- A name is answered: as before; not at all if it can't be asked for; or by what is given for it.
pub data IsAnswered (gives : Giving) (name : Text) (h : World) : Option ℕ → World → Type 0 where
  known : is_asked h name ≡ true → IsAnswered gives name h (answer_to h name) h
  barred : is_asked h name ≡ false → can_be_asked name ≡ false → IsAnswered gives name h None h
  given : {found : Option Text} → is_asked h name ≡ false → can_be_asked name ≡ true → gives name found →
      IsAnswered gives name h (answer_of found h) (with_answer name found h)

-- the answer to the first of some names that has one
pub data IsFound (gives : Giving) : List Text → World → Option ℕ → World → Type 0 where
  nowhere : {h : World} → IsFound gives [] h None h
  here : {name : Text} {names : List Text} {h last : World} {n : ℕ} → IsAnswered gives name h (Some n) last →
      IsFound gives (name ∷ names) h (Some n) last
  further : {name : Text} {names : List Text} {h next last : World} {found : Option ℕ} → IsAnswered gives name h None next →
      IsFound gives names next found last → IsFound gives (name ∷ names) h found last

-- ---- lines

abbrev pub is_directive : Kind → Bool
is_directive k.Directive = true
is_directive kind = false

abbrev pub is_line_end : Kind → Bool
is_line_end k.LineEnd = true
is_line_end kind = false

-- how many tokens come before the end of a line
unfoldable pub line_length : List Token → ℕ
line_length ts = prefix_len (λ (t : Token). not (is_line_end t.kind)) ts

abbrev pub line_of : List Token → List Token
line_of ts = take (line_length ts) ts

abbrev pub behind_line : List Token → List Token
behind_line ts = drop (line_length ts) ts

-- a header in the place of its name
abbrev pub header : ℕ → Token → Token
header n t = record { kind = k.Header; is_glued = t.is_glued; word = n; start = t.start; line = t.line; column = t.column }

-- a line with the header that was found for it: its first word, and the header; without one it stays
abbrev pub with_header : Option ℕ → List Token → List Token
with_header (Some n) (word ∷ (t ∷ after)) = word ∷ (header n t ∷ [])
with_header found line = line

-- Tokens of a file of this name and these bytes, by a table of texts, with headers in the place of their names.
pub data AreLinked (gives : Giving) (folders : List Text) (name file : Text) (texts : List Text) :
    List Token → World → List Token → World → Type 0 where
  nothing : {h : World} → AreLinked gives folders name file texts [] h [] h
  other : {t : Token} {ts us : List Token} {h last : World} → is_directive t.kind ≡ false →
      AreLinked gives folders name file texts ts h us last → AreLinked gives folders name file texts (t ∷ ts) h (t ∷ us) last
  line : {t : Token} {ts us : List Token} {h next last : World} {found : Option ℕ} → is_directive t.kind ≡ true →
      IsFound gives (candidates_if folders name (inclusion texts file (line_of ts))) h found next →
      AreLinked gives folders name file texts (behind_line ts) next us last →
      AreLinked gives folders name file texts (t ∷ ts) h (t ∷ (with_header found (line_of ts) ++ us)) last

-- ---- headers

-- a token at its place among those of all headers
abbrev pub rebased : ℕ → Token → Token
rebased base t =
    record { kind = t.kind; is_glued = t.is_glued; word = t.word; start = t.start + base; line = t.line; column = t.column }

-- the next header is read, by a table of texts
pub record IsRead (gives : Giving) (folders : List Text) (texts : List Text) (h : World) (next : List Text) (last : World) : Type 0 where
  pub file : File
  pub is_next : slice_get h.files (length h.tokens) ≡ Some file
  pub fits : Fits texts file.bytes
  pub texts_are : next ≡ texts_after texts file.bytes
  pub linked : List Token
  pub found : World
  pub links : AreLinked gives folders file.name file.bytes next (tokens_after texts file.bytes) h linked found
  pub tokens_are : last ≡ with_tokens (map (rebased file.base) linked) found

-- headers are read until each has its tokens
pub data AreClosed (gives : Giving) (folders : List Text) : List Text → World → List Text → World → Type 0 where
  all : {texts : List Text} {h : World} → length h.files ≤ length h.tokens → AreClosed gives folders texts h texts h
  one_more : {texts next last : List Text} {h then end : World} → IsRead gives folders texts h next then →
      AreClosed gives folders next then last end → AreClosed gives folders texts h last end

-- headers are read up to one whose words have no room in the table
pub data AreUnclosed (gives : Giving) (folders : List Text) : List Text → World → Excess → Type 0 where
  full : {texts : List Text} {h : World} {file : File} {excess : Excess} → slice_get h.files (length h.tokens) ≡ Some file →
      IsExcess texts file.bytes excess → AreUnclosed gives folders texts h excess
  after_one : {texts next : List Text} {h then : World} {excess : Excess} → IsRead gives folders texts h next then →
      AreUnclosed gives folders next then excess → AreUnclosed gives folders texts h excess

-- the number of the last header that begins at a place or before it
abbrev pub or_first : Option ℕ → Bool → Option ℕ
or_first (Some n) first = Some (n + 1)
or_first None true = Some 0
or_first None false = None

abbrev pub header_at : List File → ℕ → Option ℕ
header_at [] place = None
header_at (f ∷ fs) place = or_first (header_at fs place) (nat_le f.base place)

-- ---- files

-- the tokens of a file, with headers in the place of their names, and then the headers are read
pub record AreIncluded (gives : Giving) (folders : List Text) (name file : Text) (tokens : List Token) (texts : List Text) (h : World)
    (linked : List Token) (next : List Text) (last : World) : Type 0 where
  pub found : World
  pub links : AreLinked gives folders name file texts tokens h linked found
  pub closes : AreClosed gives folders texts found next last

-- one of the headers isn't read, because its words have no room in the table
pub record IsUnincluded (gives : Giving) (folders : List Text) (name file : Text) (tokens : List Token) (texts : List Text) (h : World)
    (excess : Excess) : Type 0 where
  pub linked : List Token
  pub found : World
  pub links : AreLinked gives folders name file texts tokens h linked found
  pub stops : AreUnclosed gives folders texts found excess

-- ---- steps of reading

-- a line is added to others, with the header that was found for it
pub record AddsLine (gives : Giving) (folders : List Text) (name file : Text) (texts : List Text) (line : List Token) (h : World)
    (before : List Token) (last : World) (after : List Token) : Type 0 where
  pub answer : Option ℕ
  pub found : IsFound gives (candidates_if folders name (inclusion texts file line)) h answer last
  pub tokens : after ≡ before ++ with_header answer line
