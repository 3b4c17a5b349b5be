-- What stands above a picture. This project's own program.
use Rattle.std.specs.Prelude.{ℕ, List, [], ◌∷◌, ◌++◌, codes, flat_map, map, if◌then◌else◌}
use Rattle.std.specs.Char.{is_ascii_graphic}
use Rattle.flt_tree.specs.declared.filter.Filter.{Filter}
use Rattle.flt_model.specs.Verdicts.{verdict_line}
use Rattle.flt_model.specs.declared.verdict.Verdict.{Verdict}
use Rattle.flt_model.specs.declared.verdict.Violation.{Violation}
use Rattle.flt_model.specs.declared.verdict.Violation.TheVariants.{V1, V2, V3, V4, V5, V6, V7, V8}
use Rattle.flt_explain_picture.specs.Pictures.{Text}

-- a violation by its name
abbrev pub broken_words : Violation → Text
broken_words V1 = codes "stale use"
broken_words V2 = codes "a leak"
broken_words V3 = codes "settled twice"
broken_words V4 = codes "not one owner"
broken_words V5 = codes "a status that isn't legal"
broken_words V6 = codes "above its level"
broken_words V7 = codes "lock discipline"
broken_words V8 = codes "not at this place"

-- a byte of a name; `?` for what isn't printed
abbrev pub shown : ℕ → ℕ
shown b = if is_ascii_graphic b then b else 63

-- one more name
abbrev pub another : Filter → Text
another filter = codes ", " ++ map shown filter.name

-- the names of filters, with a comma between two
abbrev pub names : List Filter → Text
names [] = []
names (filter ∷ filters) = map shown filter.name ++ flat_map another filters

-- the filters by name, and the verdict
unfoldable pub title_of : List Filter → Verdict → Text
title_of filters verdict = names filters ++ codes ": " ++ verdict_line verdict
