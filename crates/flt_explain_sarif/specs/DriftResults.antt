-- Results of SARIF 2.1.0 (OASIS): where C files and their annotations differ.
use Rattle.std.specs.Prelude.{ℕ, List, [], ◌∷◌, ◌++◌, Some, codes, flat_map, if◌then◌else◌, option_map}
use Rattle.std.specs.Borrow.{Bor}
use Rattle.flt_places.specs.Columns.{column_of}
use Rattle.flt_c_drift.specs.declared.drift.Drift.{Drift}
use Rattle.flt_c_drift.specs.declared.drift.DriftKind.{DriftKind}
use Rattle.flt_c_drift.specs.declared.drift.Span.{Span}
use Rattle.flt_c_drift.specs.Report.{has_difference, sentence}
use Rattle.flt_c_drift.specs.DriftWords.{code, help}
use Rattle.flt_places.specs.declared.places.Region.{Region}
use Rattle.flt_tree.specs.Names.{Text}
use Rattle.flt_tree.specs.declared.filter.Position.{Position}
use Rattle.json.specs.Token.{Token, begin_object, end_object, key}
use Rattle.flt_explain_parts.specs.Drifted.{level, region_at, region_of}
use Rattle.flt_explain_parts.specs.Files.{artifact_of}
use Rattle.flt_explain_parts.specs.Members.{array_member, object_member, string_member}
use Rattle.flt_explain_parts.specs.Rules.{of_rule}
use Rattle.flt_explain_parts.specs.declared.drifted.DriftedFile.{DriftedFile}
use Rattle.flt_explain_parts.specs.declared.file.Artifact.{Artifact}
use Rattle.flt_explain_parts.specs.declared.rules.ResultKind.TheVariants.{Drifted}
use Rattle.flt_explain_sarif.specs.Fingerprints.{fingerprint, key_of, numbered, text_in, word_in}
use Rattle.flt_explain_sarif.specs.Results.{artifact_by, fingerprints, item, message, not_suppressed, region_member}

-- ---- places

-- a place of a file, with its column in UTF-16 units
abbrev pub units_in : Text → Position → Position
units_in file at = record { line = at.line; column = column_of file at }

-- where something in a file begins and ends
abbrev pub region : Text → Region → List Token
region file r = region_member (codes "region") (units_in file r.first) (units_in file r.end)

abbrev pub physical : Artifact → Text → Region → List Token
physical artifact file r =
    key (codes "physicalLocation") ∷ begin_object ∷ (artifact_by (Some artifact) ++ (region file r ++ end_object ∷ []))

-- the same with words
abbrev pub location : Artifact → Text → Region → List ℕ → List Token
location artifact file r words = item (physical artifact file r ++ message words)

-- the places of a result: one
abbrev pub locations : Artifact → Text → Region → List ℕ → List Token
locations artifact file r words = array_member (codes "locations") (location artifact file r words)

-- ---- results

-- how code and annotations are made to agree
abbrev pub properties : DriftKind → List Token
properties kind = object_member (codes "properties") (string_member (codes "help") (help kind))

-- a drift of a kind and of this fingerprint in a file, which is there, in these words
abbrev pub result_members : Artifact → Text → Region → List ℕ → List ℕ → DriftKind → List Token
result_members artifact file r words print kind =
    of_rule (Drifted kind) ++ (level kind ++ (message words ++ (locations artifact file r words
    ++ (fingerprints [] words print ++ (properties kind ++ not_suppressed)))))

abbrev pub result : Artifact → Text → List ℕ → Drift → List Token
result artifact file print d = item (result_members artifact file (region_of file d) (sentence file d) print d.kind)

-- where some bytes of a file are
abbrev pub region_by : Text → Span → Region
region_by file s = region_at file s.start s.length

-- its kind, no callback, the word that it is about, and the other word, if there is one
abbrev pub drift_key : Text → Drift → List ℕ
drift_key file d =
    key_of (code d.kind) [] (text_in file (region_of file d)) (word_in file (option_map (region_by file) d.other))

-- a drift after those of these keys, with its fingerprint
abbrev pub next_result : Artifact → Text → List (List ℕ) → Drift → List Token
next_result artifact file before d = result artifact file (fingerprint before (drift_key file d)) d

-- drifts of a file in their order, each with its fingerprint
abbrev pub results_of : Artifact → Text → List Drift → List Token
results_of artifact file drifts = numbered (drift_key file) (next_result artifact file) [] drifts

-- those of a C file, in a document of files of these names; notes alone have none
abbrev pub file_results : List (Bor (List ℕ)) → DriftedFile → List Token
file_results names f =
    if has_difference f.drifts then results_of (artifact_of names f.name.now) f.file.now f.drifts else []

-- those of several C files, in the order of the files
abbrev pub drift_results : List (Bor (List ℕ)) → List DriftedFile → List Token
drift_results names drifted = flat_map (file_results names) drifted
