-- Names of files as references (RFC 3986), those from the root by the scheme `file` (RFC 8089).
use Rattle.std.specs.Prelude.{ℕ, List, [], ◌∷◌, Bool, ◌&&◌, ◌||◌, ◌==◌, nat_le, ◌/◌, ◌%◌, if◌then◌else◌, flat_map, nat_lt, ◌+◌}
use Rattle.std.specs.Prelude.{◌++◌, codes, false}
use Rattle.flt_explain_parts.specs.declared.uri.Reference.{Reference}

-- the byte stands for itself: a letter, a digit, or one of `-._~/`
abbrev pub is_plain : ℕ → Bool
is_plain b =
    (nat_le 97 b && nat_le b 122) || ((nat_le 65 b && nat_le b 90) || ((nat_le 45 b && nat_le b 57) || (b == 95 || b == 126)))

-- a hexadecimal digit
abbrev pub digit : ℕ → ℕ
digit n = if nat_lt n 10 then n + 48 else n + 55

-- what stands for a byte
abbrev pub uri_byte : ℕ → List ℕ
uri_byte b = if is_plain b then b ∷ [] else 37 ∷ digit (b / 16) ∷ digit (b % 16) ∷ []

-- the bytes of a name
abbrev pub uri_of : List ℕ → List ℕ
uri_of = flat_map uri_byte

-- a name is one from the root
abbrev pub is_absolute : List ℕ → Bool
is_absolute [] = false
is_absolute (b ∷ name) = b == 47

-- what stands before the bytes of a name
abbrev pub scheme : Bool → List ℕ
scheme is_from_root = if is_from_root then codes "file://" else []

-- a name as a reference
abbrev pub reference_of : List ℕ → Reference
reference_of name = record { uri = scheme (is_absolute name) ++ uri_of name; is_absolute = is_absolute name }
