-- The reports of drifts. This project's own program.
use Rattle.std.specs.List.{list_any}
use Rattle.std.specs.Prelude.{ℕ, zero, suc, Bool, ◌-◌, List, [], ◌∷◌, ◌++◌, codes, decimal, drop}
use Rattle.std.specs.Prelude.{flat_map, length, nat_lt, take, if◌then◌else◌, Option, Some, None}
use Rattle.flt_c_drift.specs.declared.drift.Drift.{Drift}
use Rattle.flt_c_drift.specs.declared.drift.DriftKind.{DriftKind}
use Rattle.flt_c_drift.specs.declared.drift.Span.{Span}
use Rattle.flt_places.specs.Places.{first_line, place_in}
use Rattle.flt_shown.specs.Shown.{shown}
use Rattle.flt_tree.specs.Names.{Text}
use Rattle.flt_tree.specs.declared.filter.Position.{Position}
use Rattle.flt_c_drift.specs.DriftWords.{code, heading, help, is_difference, joint, opening}

-- ---- bytes

-- so many times the same byte
abbrev pub row_of : ℕ → ℕ → Text
row_of byte zero = []
row_of byte (suc n) = row_of byte n ++ (byte ∷ [])

-- so many bytes of a file from one on, which counts from 0
abbrev pub word_at : Text → ℕ → ℕ → Text
word_at file start length = take length (drop start file)

-- ---- a report

-- the words on the word that the annotations have in its place, if there is one
abbrev pub beside : Text → DriftKind → Option Span → Text
beside file kind None = []
beside file kind (Some other) = joint kind ++ shown (word_at file other.start other.length)

-- what it is, in one sentence
unfoldable pub sentence : Text → Drift → Text
sentence file d = opening d.kind ++ (shown (word_at file d.start d.length) ++ (beside file d.kind d.other ++ codes "`"))

-- what is wrong
unfoldable pub message : Text → Drift → Text
message file d = heading d.kind ++ (code d.kind ++ (codes "]: " ++ (sentence file d ++ codes "\n")))

-- where it is
unfoldable pub place_line : Text → Position → Text
place_line name place = codes "  --> " ++
    (shown name ++ (codes ":" ++ (decimal place.line ++ (codes ":" ++ (decimal place.column ++ codes "\n")))))

-- the first thousand bytes of the line of a place, before whose byte so many are in the file; nothing if its column is greater
unfoldable pub shown_line : Text → ℕ → Position → Text
shown_line file start place = if nat_lt 1000 place.column then [] else first_line (take 1000 (drop (start - (place.column - 1)) file))

-- a line after its number
unfoldable pub numbered_line : Text → Text → Text
numbered_line number line = number ++ (codes " | " ++ (shown line ++ codes "\n"))

-- marks under so many bytes from a column on, where a number has this width
unfoldable pub marks_line : ℕ → ℕ → ℕ → Text
marks_line width column marked = row_of 32 width ++ (codes " | " ++ (row_of 32 (column - 1) ++ (row_of 94 marked ++ codes "\n")))

-- a line with its number, and marks under so many bytes from a column on
unfoldable pub marked_line : Position → ℕ → Text → Text
marked_line place marked line =
    numbered_line (decimal place.line) line ++ marks_line (length (decimal place.line)) place.column marked

-- the same; nothing where the line is empty
abbrev pub picture : Position → ℕ → Text → Text
picture place marked [] = []
picture place marked (b ∷ line) = marked_line place marked (b ∷ line)

-- how to fix it
unfoldable pub help_line : Drift → Text
help_line d = codes "   = help: " ++ (help d.kind ++ codes "\n")

-- the report of a drift at a place of the file of a name
unfoldable pub report_at : Text → Text → Position → Drift → Text
report_at name file place d =
    message file d ++ (place_line name place ++ (picture place d.length (shown_line file d.start place) ++ help_line d))

-- the report of a drift in the file of a name
abbrev pub drift_report : Text → Text → Drift → Text
drift_report name file d = report_at name file (place_in file d.start) d

-- the reports of drifts, one below the other
abbrev pub reports_of : Text → Text → List Drift → Text
reports_of name file drifts = flat_map (drift_report name file) drifts

-- one of them is a difference, and not a note
abbrev pub has_difference : List Drift → Bool
has_difference drifts = list_any (λ drift. is_difference drift.kind) drifts

-- the reports of drifts; notes alone have none
abbrev pub drift_reports : Text → Text → List Drift → Text
drift_reports name file drifts = if has_difference drifts then reports_of name file drifts else []
