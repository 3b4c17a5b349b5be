-- How much is found of several files, and how it is said. This project's own program.
use Rattle.std.specs.Prelude.{ℕ, zero, suc, ◌+◌, List, [], ◌∷◌, ◌++◌, codes, ◌==◌, if◌then◌else◌, max, nat_lt}
use Rattle.std.specs.Fmt.{decimal}
use Rattle.flt_explain_runs.specs.declared.totals.Tally.{Tally}
use Rattle.flt_explain_runs.specs.declared.totals.Total.{Total}

-- 1 where there are some, else 0
abbrev pub some : ℕ → ℕ
some zero = 0
some (suc n) = 1

-- the total of files with one more
abbrev pub with_tally : Total → Tally → Total
with_tally total t =
    record { status = max total.status t.status; findings = total.findings + t.findings; files = total.files + some t.findings }

-- so many findings are in so many of so many files
abbrev pub found_in : ℕ → ℕ → ℕ → List ℕ
found_in findings files all =
    decimal findings ++ codes " finding" ++ ((if findings == 1 then [] else codes "s") ++ codes " in " ++ decimal files ++ codes " of "
    ++ decimal all ++ codes " files")

-- the same, or that there are none
abbrev pub summary : ℕ → ℕ → ℕ → List ℕ
summary findings files all =
    if findings == 0 then codes "nothing found in " ++ decimal all ++ codes " files" else found_in findings files all

-- what ends the reports of so many files: nothing that of one; an empty line and how much is found those of several
abbrev pub ending : ℕ → ℕ → ℕ → List ℕ
ending findings files all = if nat_lt all 2 then [] else 10 ∷ summary findings files all ++ 10 ∷ []
