-- Whole numbers as C spells them: decimal, hexadecimal after 0x, octal after 0, and the suffixes u, U, l, L.
use Rattle.std.specs.Prelude.{ℕ, ◌+◌, ◌-◌, ◌*◌, ◌^◌, Bool, true, false, ◌&&◌, ◌||◌, ◌==◌, nat_lt, nat_le, if◌then◌else◌}
use Rattle.std.specs.Prelude.{List, [], ◌∷◌, Option, Some, None}
use Rattle.flt_c_tokens.specs.Bytes.{Text}

-- what a digit counts; 16 for what is none
abbrev pub digit : ℕ → ℕ
digit b =
    if nat_le 48 b && nat_le b 57 then b - 48 else (if nat_le 97 b && nat_le b 102 then (b - 97) + 10
    else (if nat_le 65 b && nat_le b 70 then (b - 65) + 10 else 16))

abbrev pub is_suffix : ℕ → Bool
is_suffix b = b == 117 || b == 85 || b == 108 || b == 76

abbrev pub are_suffixes : Text → Bool
are_suffixes [] = true
are_suffixes (b ∷ z) = is_suffix b && are_suffixes z

-- the number that goes on with these bytes, if it is at most 2^63
abbrev pub number_from : ℕ → ℕ → Text → Option ℕ
number_from base n [] = Some n
number_from base n (b ∷ z) =
    if nat_le base (digit b) then (if are_suffixes (b ∷ z) then Some n else None)
    else (if nat_lt (2 ^ 63) (base * n + digit b) then None else number_from base (base * n + digit b) z)

-- there must be a digit
abbrev pub in_base : ℕ → Text → Option ℕ
in_base base [] = None
in_base base (b ∷ z) = if nat_lt (digit b) base then number_from base 0 (b ∷ z) else None

abbrev pub is_x : ℕ → Bool
is_x b = b == 120 || b == 88

-- what is behind a 0
abbrev pub after_zero : Text → Option ℕ
after_zero [] = Some 0
after_zero (b ∷ z) = if is_x b then in_base 16 z else number_from 8 0 (b ∷ z)

-- the whole number that a text is
unfoldable pub number : Text → Option ℕ
number [] = None
number (b ∷ z) = if b == 48 then after_zero z else in_base 10 (b ∷ z)
