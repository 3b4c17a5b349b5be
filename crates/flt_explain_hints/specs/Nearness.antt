-- How near words are. This project's own definitions; the table of distances is the library's (optimal string alignment).
use Rattle.std.specs.Prelude.{ℕ, List, Some, None, ◌||◌, if◌then◌else◌, length, map, nat_lt}
use Rattle.std.specs.Borrow.{Bor}
use Rattle.std.specs.Char.{to_ascii_lowercase}
use Rattle.strsim.specs.Edits.{osa_table}
use Rattle.flt_explain_hints.specs.declared.nearness.Nearest.{Nearest}

-- a word in lower case
abbrev pub lowered : List ℕ → List ℕ
lowered = map to_ascii_lowercase

-- how many letters of two words differ, in lower case
abbrev pub distance : List ℕ → List ℕ → ℕ
distance one other = (osa_table (lowered one) (lowered other)).last_row (length (lowered other))

-- of two words that are as near neither is meant
abbrev pub nearer : Nearest → ℕ → Bor (List ℕ) → ℕ → Nearest
nearer so_far reach word d =
    if nat_lt reach d || nat_lt so_far.distance d then so_far
    else (if nat_lt d so_far.distance then record { word = Some word; distance = d } else record { word = None; distance = d })
