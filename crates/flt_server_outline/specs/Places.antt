-- Places as the Language Server Protocol 3.17 counts them.
use Rattle.std.specs.Prelude.{ℕ, ◌+◌, ◌-◌, ◌==◌, if◌then◌else◌, length, min}
use Rattle.flt_places.specs.Columns.{bytes_before, column_of}
use Rattle.flt_places.specs.Places.{first_line, rest_behind}
use Rattle.flt_server_session.specs.declared.language.Encoding.{Encoding}
use Rattle.flt_server_session.specs.declared.language.Encoding.TheVariants as encoding
use Rattle.flt_server_session.specs.declared.language.Spot.{Spot}
use Rattle.flt_tree.specs.Names.{Text}
use Rattle.flt_tree.specs.declared.filter.Position.{Position}

-- the column of a place, from 1
abbrev pub column : Encoding → Text → Position → ℕ
column encoding.Utf8 text at = at.column
column encoding.Utf16 text at = column_of text at

-- a place whose line and column count from 1, and whose column counts in bytes
abbrev pub spot_of : Encoding → Text → Position → Spot
spot_of units text at = record { line = at.line - 1; character = column units text at - 1 }

-- how many line feeds are still to be passed, behind a byte
abbrev pub left_after : ℕ → ℕ → ℕ
left_after left b = if b == 10 then left - 1 else left

-- how many bytes of a line stand before a column, which counts from 0
abbrev pub bytes_in : Encoding → Text → ℕ → ℕ
bytes_in encoding.Utf8 line character = min character (length line)
bytes_in encoding.Utf16 line character = bytes_before line character

-- the byte of a place: those before its line, and those before it in its line. Of a line that isn't there it is the end of the text
abbrev pub byte_of : Encoding → Text → Spot → ℕ
byte_of units text spot =
    (length text - length (rest_behind spot.line text)) + bytes_in units (first_line (rest_behind spot.line text)) spot.character
