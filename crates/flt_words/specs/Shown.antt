-- Words of others, as they stand on a terminal. This project's own program.
use Rattle.std.specs.Char.{encode_utf8}
use Rattle.std.specs.Fmt.{digits}
use Rattle.std.specs.List.{flat_map}
use Rattle.std.specs.Prelude.{ℕ, ◌++◌, ◌==◌, ◌+◌, ◌||◌, ◌&&◌, List, Bool, false, codes, if◌then◌else◌, nat_lt}
use Rattle.std.specs.Str.{chars}

-- a character is one from the first of two to the last
abbrev pub is_from : ℕ → ℕ → ℕ → Bool
is_from first last c = nat_lt c (last + 1) && nat_lt first (c + 1)

-- a terminal may act on a character in place of showing it: on a control, on one that turns the direction of those behind it, and on one
-- that ends a line
abbrev pub is_hidden : ℕ → Bool
is_hidden c =
    is_from 0 31 c || is_from 127 159 c || c == 1564 || is_from 8206 8207 c || is_from 8232 8238 c || is_from 8294 8297 c

-- what stands for a character: itself, or its number in hexadecimal digits
abbrev pub shown : ℕ → List ℕ
shown c = if is_hidden c then codes "\\u{" ++ (digits 16 false c ++ codes "}") else encode_utf8 c

-- words in which each of these is escaped
unfoldable pub visible : List ℕ → List ℕ
visible words = flat_map shown (chars words)
