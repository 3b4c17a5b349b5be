-- Rows of the reports. This project's own page.
use Rattle.std.specs.Prelude.{ℕ, ◌==◌, Bool, false, not, ◌||◌, [], ◌∷◌, codes, eqb, if◌then◌else◌}
use Rattle.std.specs.Int.{is_in_range}
use Rattle.std.specs.List.{starts_with}
use Rattle.flt_explain_html.specs.Escaping.{Text}

-- a blank, a dot or a digit
abbrev pub continues : ℕ → Bool
continues b = b == 32 || (b == 46 || is_in_range 48 57 b)

-- whether a row begins a report, or stands by itself
abbrev pub begins : Text → Bool
begins [] = false
begins (b ∷ z) = not (continues b)

-- the kind of the report that begins with a row
abbrev pub kind_word : Text → Text
kind_word row =
    if starts_with eqb row (codes "error[") then codes "error"
    else (if starts_with eqb row (codes "warning[") then codes "warning" else codes "other")

-- whether a row says what a run breaks
abbrev pub is_run : Text → Bool
is_run row = starts_with eqb row (codes "   = journal: breaks ")
