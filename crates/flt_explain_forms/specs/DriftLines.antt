-- Where C files and their annotations differ, as JSON. This project's own format.
use Rattle.std.specs.Prelude.{List, [], ◌∷◌, ◌++◌, codes, flat_map, if◌then◌else◌, ℕ}
use Rattle.flt_c_drift.specs.declared.drift.Drift.{Drift}
use Rattle.flt_c_drift.specs.Report.{has_difference, sentence}
use Rattle.flt_c_drift.specs.DriftWords.{code, help}
use Rattle.flt_places.specs.declared.places.Region.{Region}
use Rattle.flt_tree.specs.Names.{Text}
use Rattle.json.specs.Token.{Token, begin_object, end_object}
use Rattle.flt_explain_parts.specs.Drifted.{level, region_of}
use Rattle.flt_explain_parts.specs.Members.{line_of, string_member, text_member}
use Rattle.flt_explain_forms.specs.Places.{place_members}
use Rattle.flt_explain_forms.specs.Preface.{preface}

-- ---- a drift

abbrev pub place : Region → List Token
place r = place_members r.first r.end

-- what is said of it
abbrev pub words : Text → Drift → List Token
words file d =
    string_member (codes "drift") (code d.kind) ++ (text_member (codes "message") (sentence file d)
    ++ string_member (codes "help") (help d.kind))

-- a drift of the C file of a name, which is there
abbrev pub drift : List ℕ → Text → Region → Drift → List Token
drift name file r d =
    begin_object ∷ preface (codes "drift") name ++ (level d.kind ++ (place r ++ (words file d ++ end_object ∷ [])))

-- ---- the drifts of a file

abbrev pub drift_line : List ℕ → Text → Drift → List ℕ
drift_line name file d = line_of (drift name file (region_of file d) d)

-- a line for each drift, in their order
abbrev pub lines_of : List ℕ → Text → List Drift → List ℕ
lines_of name file drifts = flat_map (drift_line name file) drifts

-- the same; notes alone have none
abbrev pub drift_objects : List ℕ → Text → List Drift → List ℕ
drift_objects name file drifts = if has_difference drifts then lines_of name file drifts else []
