-- What `format` says, and what it writes. This project's own program.
use Rattle.std.specs.List.{All}
use Rattle.std.specs.Prelude.{◌≡◌, ◌≢◌, ℕ, Bool, true, false, flat_map, List, [], ◌∷◌, ◌++◌, drop, string_bytes, take, Result, Ok, Err}
use Rattle.flt_layout.specs.Formatted.{IsFormatted, IsUnformatted}
use Rattle.flt_layout.specs.declared.formatted.FormatError.{FormatError}
use Rattle.flt_layout.specs.declared.formatted.FormatError.TheVariants as error
use Rattle.flt_words.specs.declared.request.FormatMode.{FormatMode}
use Rattle.flt_words.specs.declared.request.FormatMode.TheVariants as modes
use Rattle.flt_files.specs.Attempts.{Attempt, Failed, Wrote}
use Rattle.flt_files.specs.Inputs.{AreRead, Giving, Text, unread_names}
use Rattle.flt_files.specs.Split.{IsCertificateStart}
use Rattle.flt_commands_texts.specs.declared.answer.TextAnswer.{TextAnswer}
use Rattle.flt_commands_texts.specs.declared.answer.TextAnswer.TheVariants.{Formatted}
use Rattle.flt_files.specs.declared.failure.Failure.{Failure}
use Rattle.flt_commands_texts.specs.declared.outcomes.FileOutcome.{FileOutcome}
use Rattle.flt_commands_texts.specs.declared.outcomes.Outcome.{Outcome}
use Rattle.flt_commands_texts.specs.declared.outcomes.Outcome.TheVariants.{Same, Other, Unwritten, Fault, Long}
use Rattle.flt_commands_texts.specs.declared.outcomes.Outcomes.{Outcomes}

-- ---- one file

-- the text of an input spells a filter, and these bytes are its layout and the certificate after it, as it was
pub record IsLayout (input bytes : Text) : Type 0 where
  pub start : ℕ
  pub begins : IsCertificateStart input start
  pub layout : Text
  pub is : IsFormatted (take start input) layout
  pub whole : bytes ≡ layout ++ drop start input

-- why the text of an input has no layout
abbrev pub HasNoLayout : Text → FormatError → Type 0
HasNoLayout input f = (start : ℕ) × IsCertificateStart input start × IsUnformatted (take start input) f

-- what an input comes to: its layout, which it is or isn't, the first fault of its text, or that the layout is too long
abbrev pub ComesTo : Text → Outcome → Type 0
ComesTo input (Same bytes) = IsLayout input bytes.items × (bytes.items ≡ input)
ComesTo input (Other bytes) = IsLayout input bytes.items × (bytes.items ≢ input)
ComesTo input (Unwritten bytes why) = IsLayout input bytes.items × (bytes.items ≢ input)
ComesTo input (Fault f) = HasNoLayout input (error.Syntax f)
ComesTo input Long = HasNoLayout input error.Long

abbrev pub is_unwritten : Outcome → Bool
is_unwritten (Unwritten bytes why) = true
is_unwritten _ = false

-- that a layout isn't written is said only where files are written
abbrev pub MayBe : FormatMode → Outcome → Type 0
MayBe modes.Write outcome = Unit {0}
MayBe _ outcome = is_unwritten outcome ≡ false

-- a file comes to this where it gives this input
pub record IsOutcome (mode : FormatMode) (input : Text) (file : FileOutcome) : Type 0 where
  pub comes : ComesTo input file.outcome
  pub fits : MayBe mode file.outcome

-- ---- all files

-- what files of these names come to that give these inputs, in order
pub data AreOutcomes (mode : FormatMode) : List Text → List Text → List FileOutcome → Type 0 where
  none : AreOutcomes mode [] [] []
  one_more : {names inputs : List Text} {files : List FileOutcome} (input : Text) (file : FileOutcome) →
      AreOutcomes mode names inputs files → IsOutcome mode input file →
      AreOutcomes mode (names ++ string_bytes file.name ∷ []) (inputs ++ input ∷ []) (files ++ file ∷ [])

-- the same of those of these files that are read, beside which these aren't
pub record AreFormatted (gives : Giving) (mode : FormatMode) (files texts : List Text) (found : Outcomes) : Type 0 where
  pub names : List Text
  pub read : AreRead gives files names texts (unread_names found.unread.items)
  pub are : AreOutcomes mode names texts found.files.items

-- what is said of the bytes of each FILE that is read
abbrev pub IsFormatSaid : Giving → FormatMode → List Text → List Text → Result TextAnswer Failure → Type 0
IsFormatSaid gives mode files texts (Ok (Formatted own found)) = (own ≡ mode) × AreFormatted gives mode files texts found
IsFormatSaid gives mode files texts (Ok _) = ⊥
IsFormatSaid gives mode files texts (Err f) = ⊥

-- ---- what is written

-- what is done under the name of a file that comes to this: where files are written and it differs from its layout, that is written, or it
-- couldn't be
abbrev pub attempts_by : FormatMode → Text → Outcome → List Attempt
attempts_by modes.Write name (Other bytes) = Wrote name bytes.items ∷ []
attempts_by modes.Write name (Unwritten bytes why) = Failed name ∷ []
attempts_by mode name outcome = []

abbrev pub attempts_for : FormatMode → FileOutcome → List Attempt
attempts_for mode file = attempts_by mode (string_bytes file.name) file.outcome

-- under those of files, one after the other
abbrev pub attempts_in : FormatMode → List FileOutcome → List Attempt
attempts_in mode files = flat_map (attempts_for mode) files

-- where files are written, the layout is, under this name, unless it couldn't be
abbrev pub IsDone : (Text → Text → Type 0) → FormatMode → Text → Outcome → Type 0
IsDone written modes.Write name (Other bytes) = written name bytes.items
IsDone written mode name outcome = Unit {0}

-- the same of a file
abbrev pub IsFileDone : (Text → Text → Type 0) → FormatMode → FileOutcome → Type 0
IsFileDone written mode file = IsDone written mode (string_bytes file.name) file.outcome

-- the layout of each file that differs from it is written there, unless it couldn't be, and nothing else is done
abbrev pub AreChanged : (Text → Text → Type 0) → (List Attempt → Type 0) → TextAnswer → Type 0
AreChanged written does (Formatted mode found) =
    All (IsFileDone written mode) found.files.items × does (attempts_in mode found.files.items)
AreChanged written does answer = does []

-- where files are written, each layout goes into its file; else nothing is done
abbrev pub IsFormatKept : (Text → Text → Type 0) → (List Attempt → Type 0) → FormatMode → TextAnswer → Type 0
IsFormatKept written does modes.Write answer = AreChanged written does answer
IsFormatKept written does mode answer = does []
