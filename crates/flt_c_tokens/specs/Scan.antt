-- Where comments, continuations of lines, and quotes end. The C standard's translation phases 2 and 3; raw strings are those of C++.
use Rattle.std.specs.Prelude.{ℕ, zero, suc, ◌+◌, ◌-◌, Bool, true, false, ◌&&◌, if◌then◌else◌, ◌==◌, nat_lt}
use Rattle.std.specs.Prelude.{[], ◌∷◌, length, take}
use Rattle.std.specs.Str.{bytes_eq}
use Rattle.flt_c_tokens.specs.Bytes.{Text, byte_at}
use Rattle.flt_c_tokens.specs.declared.scan.Closing.{Closing}

abbrev pub unended : ℕ → Closing
unended n = record { length = n; is_closed = false }

abbrev pub ended : ℕ → Closing
ended n = record { length = n; is_closed = true }

-- the length of the continuation at the front of a text: a backslash, perhaps a carriage return, and a line feed
abbrev pub continuation : Text → ℕ
continuation z =
    if byte_at z 0 == 92 then
    (if byte_at z 1 == 10 then 2 else (if byte_at z 1 == 13 && byte_at z 2 == 10 then 3 else 0))
    else 0

-- In what follows the first number counts the bytes that were read, and `left` those that are left of a continuation.

-- the length of the continuations at the front of a text
abbrev pub continuations_from : ℕ → ℕ → Text → ℕ
continuations_from n left [] = n
continuations_from n (suc left) (b ∷ z) = continuations_from (n + 1) left z
continuations_from n zero (b ∷ z) =
    if continuation (b ∷ z) == 0 then n else continuations_from (n + 1) (continuation (b ∷ z) - 1) z

-- the length of a line comment, which ends before its line feed
abbrev pub line_from : ℕ → ℕ → Text → ℕ
line_from n left [] = n
line_from n (suc left) (b ∷ z) = line_from (n + 1) left z
line_from n zero (b ∷ z) = if b == 10 then n else line_from (n + 1) (continuation (b ∷ z) - 1) z

-- how far a block comment goes, where the byte before may be a star of it
abbrev pub block_from : ℕ → Bool → ℕ → Text → Closing
block_from n star left [] = unended n
block_from n star (suc left) (b ∷ z) = block_from (n + 1) star left z
block_from n star zero (b ∷ z) =
    if nat_lt 0 (continuation (b ∷ z)) then block_from (n + 1) star (continuation (b ∷ z) - 1) z
    else (if star && b == 47 then ended (n + 1) else block_from (n + 1) (b == 42) 0 z)

-- how far a quote with this mark goes, where the byte before may escape the next one; it is open at the end of its line
abbrev pub quote_from : ℕ → ℕ → Bool → ℕ → Text → Closing
quote_from mark n escaped left [] = unended n
quote_from mark n escaped (suc left) (b ∷ z) = quote_from mark (n + 1) escaped left z
quote_from mark n escaped zero (b ∷ z) =
    if nat_lt 0 (continuation (b ∷ z)) then quote_from mark (n + 1) escaped (continuation (b ∷ z) - 1) z
    else (if b == 10 then unended n
    else (if escaped then quote_from mark (n + 1) false 0 z
    else (if b == mark then ended (n + 1) else quote_from mark (n + 1) (b == 92) 0 z)))

-- the delimiter of a raw string, and a quote
abbrev pub ends_raw : Text → Text → Bool
ends_raw delimiter z = byte_at z (length delimiter) == 34 && bytes_eq delimiter (take (length delimiter) z)

-- how far a raw string with this delimiter goes
abbrev pub raw_from : Text → ℕ → Text → Closing
raw_from delimiter n [] = unended n
raw_from delimiter n (b ∷ z) =
    if b == 41 && ends_raw delimiter z then ended (n + length delimiter + 2) else raw_from delimiter (n + 1) z
