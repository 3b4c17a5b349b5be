-- The files in which the lines of a text are. This project's own program.
use Rattle.std.specs.Prelude.{ℕ, ◌+◌, ◌-◌, ◌^◌, List, [], Option, Some, None, get_or, length, min, slice_get}
use Rattle.flt_tree.specs.Names.{Text}
use Rattle.flt_tree.specs.declared.filter.Position.{Position}
use Rattle.flt_places.specs.Places.{line_of}
use Rattle.flt_places.specs.declared.files.Files.{Files}
use Rattle.flt_places.specs.declared.files.SourceFile.{SourceFile}
use Rattle.flt_places.specs.declared.files.Stand.{Stand}

-- ---- lines

-- a number behind another one, up to the greatest
abbrev pub behind : ℕ → ℕ → ℕ
behind number more = min (number + more) (2 ^ 64 - 1)

-- the last of some stands; where there are none, one above the first line of the first file
abbrev pub last_stand : List Stand → Stand
last_stand stands = get_or stands (length stands - 1) (record { file = 0; line = 0; before = 0 })

-- where a line of this number is that comes after those with these stands: as far after the last of them as in the text
abbrev pub stand_after : List Stand → ℕ → Stand
stand_after stands line =
    record { file = (last_stand stands).file; line = behind (last_stand stands).line (line - length stands); before = 0 }

-- where a line of this number is, by its own stand, if it has one of these
abbrev pub stand_by : List Stand → ℕ → Option Stand → Stand
stand_by stands line (Some s) = s
stand_by stands line None = stand_after stands line

-- where a line of the text is
abbrev pub stand_at : Files → ℕ → Stand
stand_at f line = stand_by f.stands.now line (slice_get f.stands.now (line - 1))

-- the number of the file in which it is, and its number there
abbrev pub file_at : Files → ℕ → ℕ
file_at f line = (stand_at f line).file

abbrev pub file_line : Files → ℕ → ℕ
file_line f line = (stand_at f line).line

-- ---- places

-- the place in its file of a place in the text
abbrev pub file_place : Files → Position → Position
file_place f at = record { line = file_line f at.line; column = behind (stand_at f at.line).before at.column }

-- ---- files

-- the name of a file; none where there is no file
abbrev pub name_by : Option SourceFile → Text
name_by (Some file) = file.name.now
name_by None = []

-- the name of the file of a number
abbrev pub file_name : Files → ℕ → Text
file_name f number = name_by (slice_get f.all.now number)

-- a line of a file; nothing where there is no file
abbrev pub line_by : Option SourceFile → ℕ → Text
line_by (Some file) line = line_of file.lines line
line_by None line = []

-- the whole line of the file in which a line of the text is
abbrev pub line_in_file : Files → ℕ → Text
line_in_file f line = line_by (slice_get f.all.now (file_at f line)) (file_line f line)
