-- Words and numbers, and the quotes that a word may begin. The C standard's preprocessing tokens; raw strings are those of C++.
use Rattle.std.specs.Prelude.{ℕ, ◌+◌, Bool, false, not, ◌&&◌, ◌||◌, if◌then◌else◌, ◌==◌, nat_le}
use Rattle.std.specs.Prelude.{[], ◌∷◌, take, drop, codes}
use Rattle.std.specs.List.{prefix_len}
use Rattle.std.specs.Str.{bytes_eq}
use Rattle.flt_c_tokens.specs.Bytes.{Text, byte_at, is_word, is_exponent}
use Rattle.flt_c_tokens.specs.Scan.{quote_from, raw_from}
use Rattle.flt_c_tokens.specs.declared.piece.Part.TheVariants.{Sign, Word}
use Rattle.flt_c_tokens.specs.declared.piece.Piece.{Piece}
use Rattle.flt_c_tokens.specs.declared.scan.Closing.{Closing}
use Rattle.flt_c_tokens.specs.declared.token.Kind.{Kind}
use Rattle.flt_c_tokens.specs.declared.token.Kind.TheVariants as k

-- ---- numbers

-- a byte goes on with a number, after `last` and before `next`: a letter, a digit, `.`, an exponent's sign, or ' before a letter or digit
abbrev pub is_of_number : ℕ → ℕ → ℕ → Bool
is_of_number last b next =
    is_word b || b == 46 || is_exponent last && (b == 43 || b == 45) || b == 39 && is_word next

-- how many bytes a number has, of which so many were read, the last of them `last`
abbrev pub number_from : ℕ → ℕ → Text → ℕ
number_from n last [] = n
number_from n last (b ∷ z) = if is_of_number last b (byte_at z 0) then number_from (n + 1) b z else n

-- the number that begins with a byte
unfoldable pub number : ℕ → Text → Piece
number first z = record { part = Word k.Number; length = number_from 1 first z }

-- ---- quotes

-- a quote is a word if it ends
abbrev pub quoted : Kind → Closing → Piece
quoted kind closing = record { part = if closing.is_closed then Word kind else Sign k.Unclosed; length = closing.length }

-- the string at the front of a text, of which so many bytes are read
unfoldable pub string : ℕ → Text → Piece
string read z = quoted k.Text (quote_from 34 read false 0 (drop read z))

-- the character constant at the front of a text, of which so many bytes are read
unfoldable pub character : ℕ → Text → Piece
character read z = quoted k.Character (quote_from 39 read false 0 (drop read z))

-- the words that may stand before a string or a character constant, as part of it
unfoldable pub is_prefix : Text → Bool
is_prefix w = bytes_eq w (codes "L") || bytes_eq w (codes "u") || bytes_eq w (codes "U") || bytes_eq w (codes "u8")

-- the words that make the string behind them a raw one
unfoldable pub is_raw_prefix : Text → Bool
is_raw_prefix w =
    bytes_eq w (codes "R") || bytes_eq w (codes "LR") || bytes_eq w (codes "uR") || bytes_eq w (codes "UR") || bytes_eq w (codes "u8R")

-- delimiters have no blank, no control, no round bracket and no backslash
abbrev pub is_of_delimiter : ℕ → Bool
is_of_delimiter b = not (nat_le b 32 || b == 40 || b == 41 || b == 92)

-- the raw string at the front of a text, whose delimiter has this length and begins behind so many bytes
unfoldable pub raw : ℕ → ℕ → Text → Piece
raw read delimiter z =
    let opening = read + delimiter + 1 in
    quoted k.Text (raw_from (take delimiter (drop read z)) opening (drop opening z))

-- a raw string has an opening bracket behind its delimiter, of at most 16 bytes
abbrev pub is_raw : Text → Bool
is_raw z = let delimiter = prefix_len is_of_delimiter z in nat_le delimiter 16 && byte_at z delimiter == 40

-- ---- words

-- a word of so many bytes and no quote
abbrev pub name : ℕ → Piece
name n = record { part = Word k.Name; length = n }

-- what a quote makes of the word before it, which has so many bytes: a string, a character constant, or a word alone
unfoldable pub quote_after : ℕ → ℕ → Text → Piece
quote_after mark n z =
    if is_prefix (take n z) then (if mark == 34 then string (n + 1) z else character (n + 1) z)
    else (if mark == 34 && is_raw_prefix (take n z) && is_raw (drop (n + 1) z)
    then raw (n + 1) (prefix_len is_of_delimiter (drop (n + 1) z)) z
    else name n)

-- what stands at the front of a text that begins with the byte of a name
unfoldable pub word : Text → Piece
word z =
    let n = 1 + prefix_len is_word (drop 1 z) in
    let mark = byte_at z n in
    if mark == 34 || mark == 39 then quote_after mark n z else name n
