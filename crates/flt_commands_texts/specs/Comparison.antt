-- How a comparison of C files with their annotations is printed. This project's own program.
use Rattle.std.specs.Fmt.{decimal}
use Rattle.std.specs.Prelude.{ℕ, List, [], ◌∷◌, ◌++◌, codes, ◌==◌, if◌then◌else◌}
use Rattle.flt_commands_texts.specs.declared.comparison.Comparison.{Comparison}

-- the exit status of reports on C files: 1 if there is one
abbrev pub compared_status : List ℕ → ℕ
compared_status [] = 0
compared_status (b ∷ more) = 1

-- how a word ends of so many things
abbrev pub plural : ℕ → List ℕ
plural n = if n == 1 then [] else codes "s"

abbrev pub line_count : ℕ → List ℕ
line_count n = decimal n ++ codes " line" ++ plural n ++ codes " of annotations"

abbrev pub file_count : ℕ → List ℕ
file_count n = decimal n ++ codes " file" ++ plural n

-- so much was compared, and nothing differs
abbrev pub agreement : ℕ → ℕ → List ℕ
agreement lines files = codes "nothing differs: " ++ (line_count lines ++ (codes " in " ++ file_count files))

-- the line that says how much was compared, where there are no reports
abbrev pub last_line : List ℕ → ℕ → ℕ → List ℕ
last_line [] lines files = agreement lines files ++ 10 ∷ []
last_line (b ∷ more) lines files = []

-- reports, or how much was compared where there are none
abbrev pub printed_of : List ℕ → ℕ → ℕ → List ℕ
printed_of reports lines files = reports ++ last_line reports lines files

abbrev pub printed : Comparison → List ℕ
printed found = printed_of found.reports.items found.lines found.files
