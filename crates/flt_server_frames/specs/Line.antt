-- What a line of a frame's header says. The base protocol of the Language Server Protocol.
use Rattle.std.specs.Char.{is_ascii_digit, to_ascii_lowercase}
use Rattle.std.specs.Prelude.{ℕ, ◌+◌, ◌-◌, ◌*◌, Bool, true, false, ◌||◌, ◌&&◌, ◌==◌, nat_lt, if◌then◌else◌}
use Rattle.std.specs.Prelude.{List, [], ◌∷◌, codes, length, slice_index, take, Option, Some, None}
use Rattle.flt_server_frames.specs.declared.line.HeaderLine.{HeaderLine}
use Rattle.flt_server_frames.specs.declared.line.HeaderLine.TheVariants as said

-- bytes
abbrev pub Text : Type 0
Text = List ℕ

-- a line without the carriage return at its end
abbrev pub without_return : Text → Text
without_return line = if slice_index line (length line - 1) == 13 then take (length line - 1) line else line

-- what comes after a name in lower case, which a line may have in either case
abbrev pub after_name : Text → Text → Option Text
after_name [] bytes = Some bytes
after_name (letter ∷ letters) [] = None
after_name (letter ∷ letters) (b ∷ bytes) = if to_ascii_lowercase b == letter then after_name letters bytes else None

-- a space or a tab
abbrev pub is_blank : ℕ → Bool
is_blank b = b == 32 || b == 9

-- what comes after the blanks at the front
abbrev pub after_blanks : Text → Text
after_blanks [] = []
after_blanks (b ∷ bytes) = if is_blank b then after_blanks bytes else (b ∷ bytes)

-- the number that the digits at the front spell, after those of another number, and what comes after them; none if it is above 10^18
abbrev pub number_after : ℕ → Text → Option (ℕ × Text)
number_after n [] = Some (n, [])
number_after n (b ∷ bytes) =
    if is_ascii_digit b
    then (if nat_lt 1000000000000000000 (10 * n + (b - 48)) then None else number_after (10 * n + (b - 48)) bytes)
    else Some (n, b ∷ bytes)

abbrev pub is_empty : Text → Bool
is_empty [] = true
is_empty (b ∷ bytes) = false

-- the length that some digits spell, after which only blanks come; none if there is no digit
abbrev pub length_of : Text → Option (ℕ × Text) → Option ℕ
length_of digits None = None
length_of digits (Some found) =
    if nat_lt (length found.1) (length digits) && is_empty (after_blanks found.1) then Some found.0 else None

-- the length that the value of a field spells
abbrev pub length_in : Text → Option ℕ
length_in value = length_of (after_blanks value) (number_after 0 (after_blanks value))

abbrev pub said_of_length : Option ℕ → HeaderLine
said_of_length None = said.Malformed
said_of_length (Some length) = said.Length length

abbrev pub said_of_value : Option Text → HeaderLine
said_of_value None = said.Other
said_of_value (Some value) = said_of_length (length_in value)

-- what a line says, its line feed left out: that the header ends, how long the body is, or something else
abbrev pub said_by : Text → HeaderLine
said_by line =
    if is_empty (without_return line) then said.End
    else said_of_value (after_name (codes "content-length:") (without_return line))
