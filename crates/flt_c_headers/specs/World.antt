-- The headers of a run: the names that were asked for, the files that were found, and their tokens. This project's own rule.
use Rattle.std.specs.Prelude.{◌≡◌, ℕ, ◌+◌, ◌≤◌, ◌<◌, Bool, true, false, not, ◌&&◌, if◌then◌else◌, nat_le, nat_lt}
use Rattle.std.specs.Prelude.{List, [], ◌∷◌, ◌++◌, codes, length, Option, Some, None, slice_get, slice_index_or}
use Rattle.std.specs.List.{All}
use Rattle.std.specs.Str.{bytes_eq, is_utf8}
use Rattle.flt_c_tokens.specs.Bytes.{Text}
use Rattle.flt_c_tokens.specs.Spelled.{has_text, number_of}
use Rattle.flt_c_tokens.specs.Tokens.{max_file}
use Rattle.flt_c_tokens.specs.declared.token.Token.{Token}
use Rattle.flt_c_headers.specs.declared.headers.HeaderFile.{HeaderFile}

-- a header: its name and bytes, and where it begins in the places of headers, which are behind those of any file
pub record File : Type 0 where
  pub name : Text
  pub bytes : Text
  pub base : ℕ

-- Names in the order in which they were asked for first, and for each the number of its header, if it has one; the headers, and the tokens
-- of the first of them.
pub record World : Type 0 where
  pub asked : List Text
  pub answers : List (Option ℕ)
  pub files : List File
  pub tokens : List (List Token)

unfoldable pub no_headers : World
no_headers = record { asked = []; answers = []; files = []; tokens = [] }

-- ---- room

-- the most headers, whose number is the answer for one without room
abbrev pub max_headers : ℕ
max_headers = 1024

-- the last place of headers: 64 MB behind the last of a file
abbrev pub last_place : ℕ
last_place = 83886080

-- the place behind headers, of which the first begins here
abbrev pub base_from : ℕ → List File → ℕ
base_from base [] = base
base_from base (f ∷ fs) = base_from (f.base + length f.bytes + 1) fs

abbrev pub base_after : List File → ℕ
base_after files = base_from 16777217 files

-- there is room for a header of these bytes
abbrev pub has_room_at : ℕ → ℕ → Text → Bool
has_room_at count base bytes =
    nat_lt count max_headers && nat_le (length bytes) max_file && nat_le (base + length bytes) last_place

abbrev pub has_room : World → Text → Bool
has_room h bytes = has_room_at (length h.files) (base_after h.files) bytes

-- ---- answers

-- a name can be asked for if it is text, and not that of the standard input
abbrev pub is_standard : Text → Bool
is_standard name = bytes_eq name (codes "-")

abbrev pub can_be_asked : Text → Bool
can_be_asked name = is_utf8 name && not (is_standard name)

-- a name was asked for, and what its answer is
abbrev pub is_asked : World → Text → Bool
is_asked h name = has_text h.asked name

abbrev pub answer_to : World → Text → Option ℕ
answer_to h name = slice_index_or h.answers (number_of h.asked name) None

-- the answer to a name for which this is found
abbrev pub answer_of : Option Text → World → Option ℕ
answer_of None h = None
answer_of (Some bytes) h = Some (if has_room h bytes then length h.files else max_headers)

-- the headers with a file
abbrev pub with_file : Text → Text → World → List File
with_file name bytes h =
    if has_room h bytes then h.files ++ record { name = name; bytes = bytes; base = base_after h.files } ∷ [] else h.files

abbrev pub files_with : Text → Option Text → World → List File
files_with name None h = h.files
files_with name (Some bytes) h = with_file name bytes h

-- a name is asked for, and this is found
unfoldable pub with_answer : Text → Option Text → World → World
with_answer name found h =
    record {
      asked = h.asked ++ name ∷ [];
      answers = h.answers ++ answer_of found h ∷ [];
      files = files_with name found h;
      tokens = h.tokens;
    }

-- ---- tokens

-- the next header has these tokens
unfoldable pub with_tokens : List Token → World → World
with_tokens ts h = record { asked = h.asked; answers = h.answers; files = h.files; tokens = h.tokens ++ ts ∷ [] }

-- ---- what the program keeps

abbrev pub file_of : HeaderFile → File
file_of f = record { name = f.name.items; bytes = f.bytes.items; base = f.base }

-- what holds of the headers of each run; the next one begins here
pub record IsSound (asked : List Text) (answers : List (Option ℕ)) (files : List File) (tokens : List (List Token)) (next : ℕ) :
    Type 0 where
  pub answered : length answers ≡ length asked
  pub few : length files ≤ max_headers
  pub read : length tokens ≤ length files
  pub placed : All (λ (f : File). f.base + length f.bytes ≤ last_place) files
  pub next_is : next ≡ base_after files
  pub room : next ≤ last_place + 1

-- the answer to a name that was asked for
abbrev pub IsKnown : World → Text → Option (Option ℕ) → Type 0
IsKnown h name None = is_asked h name ≡ false
IsKnown h name (Some answer) = (is_asked h name ≡ true) × (answer ≡ answer_to h name)

-- the next header that has no tokens
pub record IsNext (h : World) (f : HeaderFile) : Type 0 where
  pub is : slice_get h.files (length h.tokens) ≡ Some (file_of f)
  pub early : length h.tokens < length h.files
  pub few : length h.files ≤ max_headers
  pub placed : f.base + length f.bytes.items ≤ last_place

-- a name as text, if it can be asked for
abbrev pub IsName : Text → Option Text → Type 0
IsName name None = can_be_asked name ≡ false
IsName name (Some text) = (can_be_asked name ≡ true) × (text ≡ name)
