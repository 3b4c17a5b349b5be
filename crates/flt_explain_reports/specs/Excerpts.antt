-- Lines of files that reports show. This project's own program.
use Rattle.std.specs.Prelude.{ℕ, Bool, if◌then◌else◌, length, nat_lt}
use Rattle.flt_places.specs.Files.{line_in_file, stand_at}
use Rattle.flt_places.specs.Places.{line_of}
use Rattle.flt_places.specs.declared.files.Files.{Files}
use Rattle.flt_tree.specs.Names.{Text}
use Rattle.flt_explain_reports.specs.declared.excerpts.Excerpt.{Excerpt as ShownLine}

-- a line that is shown for a line of a text, and how many of its bytes are before those of the text
pub record Excerpt : Type 0 where
  pub bytes : Text
  pub before : ℕ

-- the one of the program
abbrev pub of_excerpt : ShownLine → Excerpt
of_excerpt e = record { bytes = e.bytes.now; before = e.before }

-- a line has so many bytes that no report shows it
abbrev pub is_long : Text → Bool
is_long line = nat_lt 1000 (length line)

-- what a report shows for a line of a text: the line of its file, or the text's own where that is too long
abbrev pub excerpt : Files → Text → ℕ → Excerpt
excerpt files text number =
    if is_long (line_in_file files number) then record { bytes = line_of text number; before = 0 }
    else record { bytes = line_in_file files number; before = (stand_at files number).before }
