-- The output of `compare`. This project's own program.
use Rattle.std.specs.Prelude.{◌≡◌, ℕ, ◌+◌, List, [], ◌∷◌, ◌++◌, length, slice_index_or, Result, Ok, Err}
use Rattle.flt_c.specs.Files.{extracted}
use Rattle.flt_c.specs.Texts as c
use Rattle.flt_c.specs.declared.files.FileFlaw.{FileFlaw}
use Rattle.flt_c.specs.declared.files.Flaw.{Flaw}
use Rattle.flt_c_drift.specs.Drifts.{drifts}
use Rattle.flt_c_drift.specs.declared.drift.Drift.{Drift}
use Rattle.flt_c_drift.specs.Report.{drift_reports}
use Rattle.flt_files.specs.Inputs.{Text}
use Rattle.flt_commands_texts.specs.declared.answer.TextAnswer.{TextAnswer}
use Rattle.flt_commands_texts.specs.declared.answer.TextAnswer.TheVariants.{Compared}
use Rattle.flt_commands_texts.specs.declared.comparison.Comparison.{Comparison}
use Rattle.flt_files.specs.declared.failure.Failure.{Failure}
use Rattle.flt_files.specs.declared.failure.Failure.TheVariants.{Flawed, OutOfMemory}

-- ---- one file

-- what is found where files are compared: reports, and how many lines of annotations there are
pub record Found : Type 0 where
  pub reports : Text
  pub lines : ℕ

abbrev pub found_as : Text → ℕ → Found
found_as reports lines = record { reports = reports; lines = lines }

-- what is found of the file of a name with so many lines of annotations, by the points in which it and they differ
abbrev pub found_beside : Text → Text → ℕ → Result (List Drift) Flaw → Result Found Flaw
found_beside name file lines (Ok found) = Ok (found_as (drift_reports name file found) lines)
found_beside name file lines (Err flaw) = Err flaw

-- the same by the text that its annotations make
abbrev pub found_by : Text → Text → Result c.Text FileFlaw → Result (List Drift) Flaw → Result Found Flaw
found_by name file (Ok text) found = found_beside name file (length text.lines) found
found_by name file (Err f) found = Err f.flaw

-- a file whose annotations, by themselves, make no text has the flaw for which they make none
abbrev pub found_in : Text → Text → Result Found Flaw
found_in name file = found_by name file (extracted (file ∷ [])) (drifts file)

-- ---- several files

-- what is found, and what is found of more files after it, if these can be compared
abbrev pub before : Found → Result Found FileFlaw → Result Found FileFlaw
before found (Ok more) = Ok (found_as (found.reports ++ more.reports) (found.lines + more.lines))
before found (Err f) = Err f

-- the same of a file of this number, or why it can't be compared
abbrev pub found_before : ℕ → Result Found Flaw → Result Found FileFlaw → Result Found FileFlaw
found_before number (Ok found) more = before found more
found_before number (Err flaw) more = Err (record { file = number; flaw = flaw })

-- what is found of files, the first of which has this number, or the first of them that can't be compared
abbrev pub compared_from : List Text → ℕ → List Text → Result Found FileFlaw
compared_from names number [] = Ok (found_as [] 0)
compared_from names number (file ∷ files) =
    found_before number (found_in (slice_index_or names number []) file) (compared_from names (number + 1) files)

-- ---- what is said

-- this is said of so many files that come to this
abbrev pub AreCompared : ℕ → Result Found FileFlaw → Comparison → Type 0
AreCompared files (Ok found) said = (said.reports.items ≡ found.reports) × (said.lines ≡ found.lines) × (said.files ≡ files)
AreCompared files (Err f) said = ⊥

-- the file of this name can't be compared
abbrev pub AreFlawed : List Text → Result Found FileFlaw → Text → Flaw → Type 0
AreFlawed names (Ok found) name flaw = ⊥
AreFlawed names (Err f) name flaw = (name ≡ slice_index_or names f.file []) × (flaw ≡ f.flaw)

-- the answer on so many files that come to this; memory may run out
abbrev pub ComesTo : List Text → ℕ → Result Found FileFlaw → Result TextAnswer Failure → Type 0
ComesTo names files found (Ok (Compared said)) = AreCompared files found said
ComesTo names files found (Ok _) = ⊥
ComesTo names files found (Err (Flawed name flaw)) = AreFlawed names found name.now flaw
ComesTo names files found (Err OutOfMemory) = Unit {0}
ComesTo names files found (Err _) = ⊥

-- the answer on the bytes of each FILE, of these names: the reports of all drifts and how much was compared, or the first FILE that can't be
abbrev pub IsCompared : List Text → List Text → Result TextAnswer Failure → Type 0
IsCompared names files result = ComesTo names (length files) (compared_from names 0 files) result
