-- What `replay` says. This project's own program.
use Rattle.std.specs.Prelude.{◌≡◌, ◌≤◌, ◌<◌, List, ◌∷◌, length, Result, Ok, Err, [], Bool, false, Option, Some, None}
use Rattle.flt_syntax.specs.Texts.{AreSpelled, IsSyntaxFault}
use Rattle.flt_tree.specs.declared.filter.Filter.{Filter}
use Rattle.flt_model.specs.Expansion.{verdict}
use Rattle.flt_model.specs.JournalText.{Entries, IsJournal, IsFirstFault, spelling}
use Rattle.flt_model.specs.Program.{HasDistinctAltitudes, IsRepeated}
use Rattle.flt_model.specs.declared.verdict.Verdict.{Verdict}
use Rattle.flt_files.specs.Inputs.{Text}
use Rattle.flt_commands_runs.specs.declared.answer.RunAnswer.{RunAnswer}
use Rattle.flt_commands_runs.specs.declared.answer.RunAnswer.TheVariants.{Judged, Shown}
use Rattle.flt_files.specs.declared.failure.Failure.{Failure}
use Rattle.flt_files.specs.declared.failure.Failure.TheVariants.{CannotWrite, TooManyFiles, FileSyntax}
use Rattle.flt_files.specs.declared.failure.Failure.TheVariants.{JournalLine, Altitude, OutOfMemory}
use Rattle.flt_rules.specs.Limits.{max_filters}

-- ---- the journal

-- memory ran out, or the bytes have this failure
abbrev pub JournalFails : Text → Failure → Type 0
JournalFails written OutOfMemory = Unit {0}
JournalFails written (JournalLine n) = (left : Text) × IsFirstFault written n left
JournalFails written _ = ⊥

-- where there is an answer about a journal, its entries are kept, whose spelling its bytes are
abbrev pub IsKeptAs : {A : Type 0} → Option Entries → Text → Result A Failure → Type 0
IsKeptAs (Some entries) bytes (Ok answer) = bytes ≡ spelling entries
IsKeptAs None bytes (Ok answer) = ⊥
IsKeptAs kept bytes (Err f) = kept ≡ None

-- ---- of a journal and some texts

-- each text spells a filter, the journal's bytes spell entries, and this is the verdict about them
pub record IsVerdict (journal : Text) (texts : List Text) (v : Verdict) : Type 0 where
  pub few : length texts ≤ max_filters
  pub filters : List Filter
  pub spelled : AreSpelled texts filters
  pub entries : Entries
  pub is_journal : IsJournal entries
  pub written : journal ≡ spelling entries
  pub distinct : HasDistinctAltitudes filters
  pub is : v ≡ verdict filters entries

-- the first fault of the texts, or else that of the journal, or else of the altitudes; memory may run out
abbrev pub IsFailure : Text → List Text → Failure → Type 0
IsFailure journal texts TooManyFiles = max_filters < length texts
IsFailure journal texts (FileSyntax number f) = (length texts ≤ max_filters) × IsSyntaxFault texts number f
IsFailure journal texts (JournalLine n) = (length texts ≤ max_filters) × ((filters : List Filter) × AreSpelled texts filters)
    × ((left : Text) × IsFirstFault journal n left)
IsFailure journal texts (Altitude number) =
    (length texts ≤ max_filters) × ((filters : List Filter) × AreSpelled texts filters × IsRepeated filters number)
    × ((entries : Entries) × IsJournal entries × (journal ≡ spelling entries))
IsFailure journal texts OutOfMemory = Unit {0}
IsFailure journal texts _ = ⊥

-- what is said of a journal and some texts
abbrev pub Judges : Text → List Text → Result RunAnswer Failure → Type 0
Judges journal texts (Ok (Judged v)) = IsVerdict journal texts v
Judges journal texts (Ok _) = ⊥
Judges journal texts (Err f) = IsFailure journal texts f

-- an answer that shows a journal with this verdict; memory may run out
abbrev pub IsShownOf : Bool → Option Text → Verdict → Result RunAnswer Failure → Type 0
IsShownOf timeline picture verdict (Ok (Shown rows v)) = (v ≡ verdict) × (timeline ≡ false → rows.items ≡ [])
IsShownOf timeline picture verdict (Ok _) = ⊥
IsShownOf timeline picture verdict (Err (CannotWrite name why)) = picture ≡ Some name.now
IsShownOf timeline picture verdict (Err OutOfMemory) = Unit {0}
IsShownOf timeline picture verdict (Err _) = ⊥

-- the same of a journal that is shown: without a timeline there are no rows, and a picture may not be written
abbrev pub ShownJudges : Bool → Option Text → Text → List Text → Result RunAnswer Failure → Type 0
ShownJudges timeline picture journal texts (Ok (Shown rows v)) = IsVerdict journal texts v × (timeline ≡ false → rows.items ≡ [])
ShownJudges timeline picture journal texts (Ok _) = ⊥
ShownJudges timeline picture journal texts (Err (CannotWrite name why)) = picture ≡ Some name.now
ShownJudges timeline picture journal texts (Err f) = IsFailure journal texts f

-- what is said of the bytes of JOURNAL and of each FILE, where the journal is shown
abbrev pub IsShown : Bool → Option Text → List Text → Result RunAnswer Failure → Type 0
IsShown timeline picture (journal ∷ texts) result = ShownJudges timeline picture journal texts result
IsShown timeline picture [] result = ⊥

-- what is said of the bytes of JOURNAL and of each FILE
abbrev pub IsReplayed : List Text → Result RunAnswer Failure → Type 0
IsReplayed (journal ∷ texts) result = Judges journal texts result
IsReplayed [] result = ⊥
