-- The classes of bytes. The C standard's character sets; `$` and bytes above 127 are letters, as compilers have it.
use Rattle.std.specs.Prelude.{ℕ, Bool, ◌||◌, ◌==◌, nat_lt, List, slice_index_or}
use Rattle.std.specs.Char.{is_ascii_digit, is_ascii_alphanumeric}

abbrev pub Text : Type 0
Text = List ℕ

-- the byte at a place, or 0 behind the end
abbrev pub byte_at : Text → ℕ → ℕ
byte_at z place = slice_index_or z place 0

-- space, tab, vertical tab, form feed, carriage return; a line feed ends a line
abbrev pub is_blank : ℕ → Bool
is_blank b = b == 32 || b == 9 || b == 11 || b == 12 || b == 13

abbrev pub is_digit : ℕ → Bool
is_digit b = is_ascii_digit b

-- letters, digits, `_`, `$`, and bytes above 127
abbrev pub is_word : ℕ → Bool
is_word b = is_ascii_alphanumeric b || b == 95 || b == 36 || nat_lt 127 b

-- e E p P
abbrev pub is_exponent : ℕ → Bool
is_exponent b = b == 101 || b == 69 || b == 112 || b == 80
