-- Where C files and their annotations differ: what each form says of it, and the status that comes of it. This project's own format.
use Rattle.std.specs.Prelude.{ℕ, ◌+◌, List, Bool, ◌&&◌, codes, if◌then◌else◌}
use Rattle.std.specs.List.{list_any}
use Rattle.flt_c_drift.specs.declared.drift.Drift.{Drift}
use Rattle.flt_c_drift.specs.declared.drift.DriftKind.{DriftKind}
use Rattle.flt_c_drift.specs.Report.{has_difference}
use Rattle.flt_c_drift.specs.DriftWords.{is_difference}
use Rattle.flt_places.specs.Places.{region_in}
use Rattle.flt_places.specs.declared.places.Region.{Region}
use Rattle.flt_tree.specs.Names.{Text}
use Rattle.json.specs.Token.{Token}
use Rattle.flt_explain_parts.specs.Members.{string_member}
use Rattle.flt_explain_parts.specs.declared.drifted.DriftedFile.{DriftedFile}

-- ---- a drift

-- a warning; or a note, where code and annotations don't differ
abbrev pub level_word : DriftKind → List ℕ
level_word kind = if is_difference kind then codes "warning" else codes "note"

abbrev pub level : DriftKind → List Token
level kind = string_member (codes "level") (level_word kind)

-- where so many bytes of a file from one on are, which counts from 0
abbrev pub region_at : Text → ℕ → ℕ → Region
region_at file start length = region_in file start (start + length)

-- where the word is that a drift is about
abbrev pub region_of : Text → Drift → Region
region_of file d = region_at file d.start d.length

-- ---- the status

-- code and annotations differ in one of these files
abbrev pub is_drifted : List DriftedFile → Bool
is_drifted drifted = list_any (λ (f : DriftedFile). has_difference f.drifts) drifted

-- 1 where warnings count and there is such a file; else 0
abbrev pub drift_status : Bool → List DriftedFile → ℕ
drift_status strict drifted = if strict && is_drifted drifted then 1 else 0
