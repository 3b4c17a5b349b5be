-- The annotations of a C file where they stand in it. This project's own rule.
use Rattle.std.specs.Prelude.{◌≡◌, ◌⊎◌, slice_index, ℕ, ◌-◌, Bool, true, false, if◌then◌else◌, ◌==◌}
use Rattle.std.specs.Prelude.{List, [], ◌∷◌, ◌++◌, replicate, Option, Some, None, Result, Ok, Err}
use Rattle.flt_c.specs.declared.files.FileFlaw.{FileFlaw}
use Rattle.flt_c.specs.declared.laying.PlaceFlaw.{PlaceFlaw}
use Rattle.flt_c.specs.declared.laying.PlaceFlaw.TheVariants.{Flawed, Crowded}
use Rattle.flt_c.specs.declared.place.Place.{Place}
use Rattle.flt_c.specs.declared.text.Line.{Line}
use Rattle.flt_c.specs.Files.{extracted}
use Rattle.flt_c.specs.Laws.{IsEnd}
use Rattle.flt_c.specs.Places.{first_place, past, place_of}
use Rattle.flt_c.specs.Texts.{Text}

-- what stands before a line that begins at a place, after the end of an earlier line: empty lines, and blanks
abbrev pub gap : ℕ → Place → List ℕ
gap last at = replicate (at.line - last - 1) 10 ++ replicate (at.column - 1) 32

-- bytes whose lines begin at these places, laid where they stand after an earlier line, from the start of a line or from within one
abbrev pub laid : ℕ → Bool → List ℕ → List Line → List ℕ
laid last fresh [] lines = []
laid last true (b ∷ z) [] = b ∷ laid last (b == 10) z []
laid last true (b ∷ z) (line ∷ lines) = gap last line.place ++ b ∷ laid line.place.line (b == 10) z lines
laid last false (b ∷ z) lines = b ∷ laid last (b == 10) z lines

-- the first line that stands in the line of C in which the one before it ends
abbrev pub crowded : ℕ → List Line → Option Place
crowded last [] = None
crowded last (line ∷ lines) = if line.place.line == last then Some line.place else crowded line.place.line lines

-- a text laid where it stands, unless two of its lines stand in one
abbrev pub laid_unless : Option Place → Text → Result (List ℕ) PlaceFlaw
laid_unless (Some at) text = Err (Crowded at)
laid_unless None text = Ok (laid 0 true text.bytes text.lines)

-- the same of the text of a file, if it has one
abbrev pub laid_of : Result Text FileFlaw → Result (List ℕ) PlaceFlaw
laid_of (Ok text) = laid_unless (crowded 0 text.lines) text
laid_of (Err flaw) = Err (Flawed flaw.flaw)

-- the annotations of a file where they stand: each in its line and at its column, and nothing else
abbrev pub in_place : List ℕ → Result (List ℕ) PlaceFlaw
in_place file = laid_of (extracted (file ∷ []))

-- ---- each byte of them stands in C

-- the byte of a file at this line and column, or the line feed where an annotation ends there
abbrev pub IsInC : List ℕ → Place → ℕ → Type 0
IsInC file at b =
    (n : ℕ) × (((place_of file n).line ≡ at.line) ×
    (((place_of file n).column ≡ at.column) × ((slice_index file n ≡ b) ⊎ ((b ≡ 10) × IsEnd file n))))

-- a blank or a line feed before a line of the text, or a blank for an expression of a lock
abbrev pub IsGap : ℕ → Type 0
IsGap b = (b ≡ 32) ⊎ (b ≡ 10)

-- each byte of what is laid from a place on is in the file at its own line and column, or is a blank, or stands before a line of the text
abbrev pub AreInC : List ℕ → Place → List ℕ → Type 0
AreInC file at [] = Unit {0}
AreInC file at (b ∷ z) = (IsGap b ⊎ IsInC file at b) × AreInC file (past at b) z

-- each byte of the annotations of a file, where they stand in it, is in the file at the same line and column
abbrev pub EachByteIsInItsPlace : Type 0
EachByteIsInItsPlace = (file text : List ℕ) → in_place file ≡ Ok text → AreInC file first_place text
