-- What stands below the lines of a note. This project's own program.
use Rattle.std.specs.Prelude.{◌≡◌, List, [], ◌∷◌, ◌++◌, ℕ, ◌+◌, ◌-◌, ◌^◌, ◌==◌, Bool, false}
use Rattle.std.specs.Prelude.{true, min, Option, Some, None, codes, string_bytes}
use Rattle.std.specs.Fmt.{format_spec, styled_decimal}
use Rattle.flt_places.specs.Files.{file_line}
use Rattle.flt_places.specs.declared.files.Files.{Files}
use Rattle.flt_tree.specs.Names.{Text}
use Rattle.flt_tree.specs.declared.tree.Tree.{Tree}
use Rattle.flt_search.specs.declared.judging.BreakingJournal.{BreakingJournal}
use Rattle.flt_model.specs.JournalText.{Entries}
use Rattle.flt_model.specs.Program.{filters_of}
use Rattle.flt_model.specs.declared.verdict.Verdict.{Verdict}
use Rattle.flt_model.specs.declared.verdict.Verdict.TheVariants as verdicts
use Rattle.flt_explain_timeline.specs.Text as timelines
use Rattle.flt_explain_timeline.specs.Timelines.{IsTimeline}
use Rattle.flt_explain_timeline.specs.declared.timeline.Timeline.{Timeline}
use Rattle.flt_explain_outcomes.specs.declared.schedules.Schedule.{Schedule}
use Rattle.flt_explain_outcomes.specs.declared.schedules.Schedule.TheVariants.{Breaks, NotWithin, Cut, NeverHanded, NeverStarted, NeverGot}
use Rattle.flt_explain_outcomes.specs.Noted.{own_files, own_of, schedule_of}
use Rattle.flt_explain_outcomes.specs.Setters.{IsSetter}
use Rattle.flt_explain_outcomes.specs.declared.again.Setting.{Setting}
use Rattle.flt_explain_outcomes.specs.declared.noted.SetterOutcome.{SetterOutcome}
use Rattle.flt_explain_outcomes.specs.declared.noted.SetterOutcome.TheVariants.{Runs, RunsNowhere}
use Rattle.flt_explain_outcomes.specs.declared.noted.Note.{Note}
use Rattle.flt_explain_outcomes.specs.declared.setters.Setter.{Setter}

-- ---- below the line of a note

-- how the rows of a run are read
abbrev pub legend : List ℕ
legend =
    codes "    (left: entries; right: lines, without those that nobody else sees; `yes` and `no`: how a call went)"
    ++ 10 ∷ []

-- that the rule asks for the release of `arg` all the same
abbrev pub stricter : List ℕ
stricter =
    codes "   = note: stricter than the driver kit: this rule takes `arg` as possibly held in each callback that has one"
    ++ 10 ∷ []

-- a journal on these filters, whose texts are in these files, of which this is said, as rows, four blanks in, below a line that says how
-- they are read
pub record AreJournalRows (own : List Tree) (files : List Files) (journal : Entries) (verdict : Verdict) (rows : List ℕ) : Type 0 where
  pub timeline : Timeline
  pub is : IsTimeline (filters_of own) files journal verdict timeline
  pub whole : rows ≡ legend ++ timelines.text timeline 4

-- a run of these filters as rows: its own journal, with what it breaks
abbrev pub AreRunRows : List Tree → List Files → BreakingJournal → List ℕ → Type 0
AreRunRows own files run rows = AreJournalRows own files run.journal (verdicts.Breaks run.violation run.entry) rows

-- what comes of a finding as rows: its run; that the rule is stricter than the driver kit; or nothing
abbrev pub AreScheduleRows : List Tree → List Files → Schedule → List ℕ → Type 0
AreScheduleRows own files (Breaks run) rows = AreRunRows own files run rows
AreScheduleRows own files NeverHanded rows = rows ≡ stricter
AreScheduleRows own files NotWithin rows = rows ≡ []
AreScheduleRows own files Cut rows = rows ≡ []
AreScheduleRows own files NeverStarted rows = rows ≡ []
AreScheduleRows own files (NeverGot u) rows = rows ≡ []

-- the same of a note
abbrev pub AreNoteRows : List Tree → List Files → Note → List ℕ → Type 0
AreNoteRows trees files n rows =
    AreScheduleRows (own_of trees n.filter n.scheduled) (own_files files n.filter n.scheduled) (schedule_of n.scheduled) rows

-- ---- below the line on one more callback

-- what stands in front of a line of a number, which is right-aligned in four columns
abbrev pub line_head : ℕ → List ℕ
line_head n = codes "    " ++ (styled_decimal (format_spec 32 3 0 4 (2 ^ 64 - 1)) n ++ codes " | ")

-- lines with their numbers in front, from this number on, read from the start of a line or from within one
abbrev pub numbered_from : ℕ → Bool → List ℕ → List ℕ
numbered_from line begins [] = []
numbered_from line true (b ∷ bytes) = line_head line ++ b ∷ numbered_from (min (line + 1) (2 ^ 64 - 1)) (b == 10) bytes
numbered_from line false (b ∷ bytes) = b ∷ numbered_from line (b == 10) bytes

abbrev pub numbered : ℕ → List ℕ → List ℕ
numbered line lines = numbered_from line true lines

-- the lines of the callback that a text in these files has more, and a run of that text as rows
pub record AreSetterRows (s : Setter) (files : Files) (run : BreakingJournal) (rows : List ℕ) : Type 0 where
  pub drawn : List ℕ
  pub are : AreRunRows s.trees (files ∷ []) run drawn
  pub whole : rows ≡ numbered (file_line files s.line) (string_bytes s.added) ++ drawn

-- the same, where there is such a run
abbrev pub AreRowsBy : Setter → Files → SetterOutcome → List ℕ → Type 0
AreRowsBy s files (Runs run) rows = AreSetterRows s files run rows
AreRowsBy s files RunsNowhere rows = rows ≡ []

-- the same, where that was looked for
abbrev pub AreSettingRows : Option Setting → Files → Option SetterOutcome → List ℕ → Type 0
AreSettingRows None files again rows = rows ≡ []
AreSettingRows (Some s) files None rows = rows ≡ []
AreSettingRows (Some s) files (Some again) rows = AreRowsBy s.setter files again rows

-- a run of a text in these files with one more callback as rows, below the lines of that callback
pub record AreRowsWithMore (text : Text) (files : Files) (run : BreakingJournal) (rows : List ℕ) : Type 0 where
  pub setter : Setter
  pub is : IsSetter text setter
  pub are : AreSetterRows setter files run rows

-- the same, where there is such a run
abbrev pub AreAgainRows : Text → Files → Option SetterOutcome → List ℕ → Type 0
AreAgainRows text files None rows = rows ≡ []
AreAgainRows text files (Some RunsNowhere) rows = rows ≡ []
AreAgainRows text files (Some (Runs run)) rows = AreRowsWithMore text files run rows
