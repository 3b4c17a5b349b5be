-- Places in files and in their headers. This project's own rule.
use Rattle.std.specs.List.{list_any}
use Rattle.std.specs.Prelude.{ℕ, nat_eq, Bool, false, if◌then◌else◌, List, [], ◌∷◌, ◌++◌, slice_get, Option, Some, None}
use Rattle.flt_c_headers.specs.Reading.{header_at}
use Rattle.flt_c_headers.specs.World.{File}
use Rattle.flt_c_tokens.specs.Bytes.{Text}
use Rattle.flt_c_tokens.specs.declared.token.Token.{Token}

-- ---- names

abbrev pub name_of : Option File → Text
name_of None = []
name_of (Some f) = f.name

-- the name of a file, or of one of its headers, by the header's number
abbrev pub name_by : List File → Text → Option ℕ → Text
name_by headers name None = name
name_by headers name (Some n) = name_of (slice_get headers n)

-- the name of the file where a token is, which was read for a file of this name
abbrev pub file_name : List File → Text → Token → Text
file_name headers name t = name_by headers name (header_at headers t.start)

-- ---- what is told once

-- a number is one of these
abbrev pub is_among : List ℕ → ℕ → Bool
is_among numbers n = list_any (λ m. nat_eq m n) numbers

abbrev pub is_told_by : List ℕ → Option ℕ → Bool
is_told_by told None = false
is_told_by told (Some n) = is_among told n

-- a token is in a header whose items are told already, by its number
abbrev pub is_told : List File → List ℕ → Token → Bool
is_told headers told t = is_told_by told (header_at headers t.start)

abbrev pub with_number : List ℕ → ℕ → List ℕ
with_number numbers n = if is_among numbers n then numbers else numbers ++ n ∷ []

-- the headers that are told behind one more file, by those that were read in it
abbrev pub told_behind : List ℕ → List ℕ → List ℕ
told_behind told [] = told
told_behind told (n ∷ ns) = told_behind (with_number told n) ns
