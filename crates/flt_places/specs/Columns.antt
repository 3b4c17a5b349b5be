-- Columns in UTF-16 units, as SARIF 2.1.0 (OASIS) and the Language Server Protocol 3.17 count them. A text is taken for UTF-8 (RFC 3629).
use Rattle.std.specs.Prelude.{ℕ, List, [], ◌∷◌, ◌+◌, ◌-◌, if◌then◌else◌, length, map, min, nat_lt, sum, take}
use Rattle.flt_places.specs.Files.{file_place, line_in_file}
use Rattle.flt_places.specs.Places.{line_of}
use Rattle.flt_places.specs.declared.files.Files.{Files}
use Rattle.flt_tree.specs.Names.{Text}
use Rattle.flt_tree.specs.declared.filter.Position.{Position}

-- how many units a byte brings: a character's first byte brings all of them, two from U+10000 on, and each byte behind it none
abbrev pub units_of : ℕ → ℕ
units_of b = if nat_lt b 128 then 1 else (if nat_lt b 192 then 0 else (if nat_lt b 240 then 1 else 2))

-- how many units some bytes have
abbrev pub units : List ℕ → ℕ
units bytes = sum (map units_of bytes)

-- ---- in a line

-- the column so many bytes behind a column that counts in bytes, from 1; the end of the line where it ends before
abbrev pub column_in : List ℕ → ℕ → ℕ → ℕ
column_in line column count = units (take (column - 1 + count) line) + 1

-- the column of the last of so many bytes from a column on, from 1; that of the line's last byte where it ends before. It counts in bytes
abbrev pub last_in : List ℕ → ℕ → ℕ → ℕ
last_in line column count = min (column - 1 + count) (length line)

-- ---- of places

-- the column of a place
abbrev pub column_of : Text → Position → ℕ
column_of text at = column_in (line_of text at.line) at.column 0

-- the column so many bytes behind a place of a text, in the line of its file in which that is
abbrev pub file_column_behind : Files → Position → ℕ → ℕ
file_column_behind files at count = column_in (line_in_file files at.line) (file_place files at).column count

-- the column of the last of so many bytes from such a place on, in that line. It counts in bytes
abbrev pub file_column_up_to : Files → Position → ℕ → ℕ
file_column_up_to files at count = last_in (line_in_file files at.line) (file_place files at).column count

-- ---- the same the other way round

-- how many bytes at the front of a line have at most so many units
abbrev pub bytes_before : List ℕ → ℕ → ℕ
bytes_before [] left = 0
bytes_before (b ∷ bytes) left = if nat_lt left (units_of b) then 0 else 1 + bytes_before bytes (left - units_of b)
