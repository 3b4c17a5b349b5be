-- The drifts of C files that `explain` prints. This project's own program.
use Rattle.std.specs.Prelude.{◌≡◌, Bool, true, false, List, [], ◌∷◌, ◌++◌, flat_map, map, Option, Some, None, Result, Ok, Err}
use Rattle.std.specs.List.{list_any}
use Rattle.std.specs.Str.{bytes_eq}
use Rattle.flt_c.specs.declared.files.Flaw.{Flaw}
use Rattle.flt_c_drift.specs.Drifts.{drifts}
use Rattle.flt_c_drift.specs.declared.drift.Drift.{Drift}
use Rattle.flt_c_drift.specs.declared.drift.DriftKind.{DriftKind}
use Rattle.flt_c_drift.specs.Line.{drift_lines}
use Rattle.flt_c_drift.specs.Report.{drift_reports}
use Rattle.flt_c_drift.specs.DriftWords.{code}
use Rattle.flt_explain_forms.specs.DriftLines.{drift_objects}
use Rattle.flt_explain_parts.specs.declared.drifted.DriftedFile.{DriftedFile}
use Rattle.flt_joined.specs.Texts.{Given}
use Rattle.flt_words.specs.Shown.{visible}
use Rattle.flt_words.specs.declared.request.Form.{Form}
use Rattle.flt_words.specs.declared.request.Form.TheVariants.{Html, Human, Lines, LinesWithRuns, Sarif, SarifWithRuns, Short}
use Rattle.flt_files.specs.Inputs.{Text}

-- ---- the drifts of one file

-- the code of a kind is among those that are left out
abbrev pub is_left_out : List Text → DriftKind → Bool
is_left_out allowed kind = list_any (bytes_eq (code kind)) allowed

-- a drift, unless it is left out
abbrev pub unless : Bool → Drift → List Drift
unless true d = []
unless false d = d ∷ []

-- the drifts that aren't left out
abbrev pub shown_among : List Text → List Drift → List Drift
shown_among allowed found = flat_map (λ d. unless (is_left_out allowed d.kind) d) found

-- the same of what a file comes to; one that can't be compared has none
abbrev pub shown_of : List Text → Result (List Drift) Flaw → List Drift
shown_of allowed (Ok found) = shown_among allowed found
shown_of allowed (Err flaw) = []

-- the drifts of a C file that are shown
abbrev pub shown_drifts : List Text → Text → List Drift
shown_drifts allowed file = shown_of allowed (drifts file)

-- ---- the drifts of all files

-- a C file of a name, and its drifts
pub record DriftsOf : Type 0 where
  pub name : Text
  pub file : Text
  pub drifts : List Drift

abbrev pub drifts_in : DriftedFile → DriftsOf
drifts_in f = record { name = f.name.now; file = f.file.now; drifts = f.drifts }

-- a file with its drifts that are shown, if it is a C file
abbrev pub drifts_by : List Text → Text → Option Text → List DriftsOf
drifts_by allowed name (Some file) = record { name = name; file = file; drifts = shown_drifts allowed file } ∷ []
drifts_by allowed name None = []

abbrev pub drifts_of : List Text → Given → List DriftsOf
drifts_of allowed g = drifts_by allowed g.name g.code

-- these are the C files among some files, with their drifts that are shown
abbrev pub AreDrifted : List Text → List Given → List DriftedFile → Type 0
AreDrifted allowed files drifted = map drifts_in drifted ≡ flat_map (drifts_of allowed) files

-- ---- how they are printed

-- how a form prints these drifts of the C file of a name: as reports, as lines or as JSON objects; a SARIF document has them within it
abbrev pub part_by : Form → Text → Text → List Drift → Text
part_by Human name file found = drift_reports name file found
part_by Html name file found = drift_reports name file found
part_by Short name file found = drift_lines (visible name) file found
part_by Lines name file found = drift_objects name file found
part_by LinesWithRuns name file found = drift_objects name file found
part_by Sarif name file found = []
part_by SarifWithRuns name file found = []

abbrev pub part : Form → DriftedFile → Text
part form f = part_by form f.name.now f.file.now f.drifts

-- an empty line after drifts, for people
abbrev pub gap : Form → Text → Text
gap form [] = []
gap Human (b ∷ printed) = 10 ∷ []
gap Html (b ∷ printed) = 10 ∷ []
gap form (b ∷ printed) = []

abbrev pub with_gap : Form → Text → Text
with_gap form printed = printed ++ gap form printed

-- what is printed of the drifts of some files, in order
abbrev pub drifts_told : Form → List DriftedFile → Text
drifts_told form drifted = with_gap form (flat_map (part form) drifted)
