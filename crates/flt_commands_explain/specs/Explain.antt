-- What `explain` says. This project's own program.
use Rattle.std.specs.Borrow.{Bor}
use Rattle.std.specs.Io.{StartsWith}
use Rattle.flt_door.specs.Lines.{Shows}
use Rattle.std.specs.List.{AllZip, list_all}
use Rattle.std.specs.Prelude.{◌≡◌, ℕ, ◌+◌, List, [], ◌∷◌, ◌++◌, Bool, map, true, false, Option}
use Rattle.std.specs.Prelude.{Some, None, Result, Ok, Err, length, max, take}
use Rattle.flt_explain_pages.specs.Pages.{has_page, title}
use Rattle.flt_explain_parts.specs.Drifted.{drift_status}
use Rattle.flt_explain_forms.specs.Lines.{AreLines}
use Rattle.flt_explain_sarif.specs.Sarif.{IsSarif}
use Rattle.flt_explain_parts.specs.declared.drifted.DriftedFile.{DriftedFile}
use Rattle.flt_explain_flows.specs.declared.finding_run.FindingRun.{FindingRun}
use Rattle.flt_files.specs.declared.unread.UnreadFile.{UnreadFile}
use Rattle.flt_explain_forms.specs.declared.as_lines.Style.TheVariants.{Object, Sentence}
use Rattle.flt_joined.specs.Texts.{Given}
use Rattle.flt_model.specs.JournalText.{Entries, spelling}
use Rattle.flt_explain_outcomes.specs.Noted.{AreNotes, first_journal}
use Rattle.flt_explain_runs.specs.Reported.{AreReports, IsAllButLast, IsCut}
use Rattle.flt_explain_runs.specs.Told.{Tells}
use Rattle.flt_explain_runs.specs.Whole.{IsPrint, Look}
use Rattle.flt_explain_outcomes.specs.declared.noted.Note.{Note}
use Rattle.flt_explain_outcomes.specs.declared.schedules.RunSearch.{RunSearch}
use Rattle.flt_explain_runs.specs.declared.explaining.ExplainOutput.{ExplainOutput}
use Rattle.flt_explain_texts.specs.Reports.{texts_of}
use Rattle.flt_explain_texts.specs.declared.sources.Source.{Source}
use Rattle.flt_commands_explain.specs.Sources.{AreSources}
use Rattle.flt_words.specs.declared.request.Colour.{Colour}
use Rattle.flt_words.specs.declared.request.Colour.TheVariants.{Auto, Always, Never}
use Rattle.flt_words.specs.declared.request.Form.{Form}
use Rattle.flt_words.specs.Shown.{visible}
use Rattle.flt_words.specs.declared.request.Form.TheVariants.{Html, Human, Lines, LinesWithRuns, Sarif, SarifWithRuns, Short}
use Rattle.flt_words.specs.declared.request.SearchChoice.{SearchChoice}
use Rattle.flt_explain_warning_details.specs.declared.options.WarningOptions.{WarningOptions}
use Rattle.flt_words.specs.Request.{Choice}
use Rattle.flt_commands_explain.specs.Allowed.{options_of}
use Rattle.flt_commands_explain.specs.Annotated.{AreFound}
use Rattle.flt_commands_explain.specs.Drifts.{AreDrifted, drifts_told}
use Rattle.flt_commands_explain.specs.FindingRuns.{AreRuns}
use Rattle.flt_commands_explain.specs.InTurn.{AreFirstLines}
use Rattle.flt_files.specs.Attempts.{Attempt, IsUndone, Wrote}
use Rattle.flt_files.specs.Inputs.{Giving, Text, unread_names}
use Rattle.flt_commands_explain.specs.Answer.{output, sent_of}
use Rattle.flt_commands_explain.specs.Html.{IsPageOn, IsPaged}
use Rattle.flt_commands_explain.specs.declared.answer.ExplainAnswer.{ExplainAnswer}
use Rattle.flt_commands_explain.specs.declared.answer.ExplainAnswer.TheVariants.{Explained, Pages}
use Rattle.flt_commands_explain.specs.declared.explain.ExplainOptions.{ExplainOptions}
use Rattle.flt_commands_explain.specs.declared.explain.Explanation.{Explanation}
use Rattle.flt_commands_explain.specs.declared.explain.Explanation.TheVariants.{Told as Said, Unwritten}
use Rattle.flt_files.specs.declared.failure.Failure.{Failure}
use Rattle.flt_files.specs.declared.failure.Failure.TheVariants.{CannotRead, CannotWrite, OutOfMemory}

-- a file's name, as a form tells it
abbrev pub told_name : Form → Text → Text
told_name Short name = visible name
told_name form name = name

-- JSON objects with the runs of the noted findings
pub record AreToldWithRuns (options : WarningOptions) (sources : List Source) (t : ExplainOutput) : Type 0 where
  pub runs : Bor (List FindingRun)
  pub found : AreRuns sources t.noted runs.now
  pub lines : AreLines Object options sources (Some runs) t.explained.output.items t.explained.status

-- a SARIF document with them
pub record IsToldWithRuns (options : WarningOptions) (drifted : List DriftedFile) (sources : List Source) (unread : List UnreadFile)
    (t : ExplainOutput) : Type 0 where
  pub runs : List FindingRun
  pub found : AreRuns sources t.noted runs
  pub document : IsSarif options sources unread runs drifted t.explained.output.items t.explained.status

-- what is told in a form: reports, a sentence or a JSON object for each finding, a SARIF document, which has these drifts and tells of
-- these files that they aren't read, or a page on reports, in which the drifts come before them
abbrev pub IsTold : Form → WarningOptions → List DriftedFile → List Source → List UnreadFile → ExplainOutput → Type 0
IsTold Human options drifted sources unread t = AreReports options sources t.explained.output.items t.explained.status
IsTold Short options drifted sources unread t = AreLines Sentence options sources None t.explained.output.items t.explained.status
IsTold Lines options drifted sources unread t = AreLines Object options sources None t.explained.output.items t.explained.status
IsTold Sarif options drifted sources unread t = IsSarif options sources unread [] drifted t.explained.output.items t.explained.status
IsTold LinesWithRuns options drifted sources unread t = AreToldWithRuns options sources t
IsTold SarifWithRuns options drifted sources unread t = IsToldWithRuns options drifted sources unread t
IsTold Html options drifted sources unread t =
    IsPageOn options (drifts_told Html drifted) sources t.explained.output.items t.explained.status

-- what came of the findings of these texts in runs, of each that is reported by itself, in runs of all texts only where a stack is asked
-- for; nothing is looked for where that is neither told nor written into a file
abbrev pub AreNotedFor : Bool → Form → Option Text → List Text → List Note → Type 0
AreNotedFor is_stack form (Some name) texts noted = AreNotes is_stack texts noted
AreNotedFor is_stack Human None texts noted = AreNotes is_stack texts noted
AreNotedFor is_stack Html None texts noted = AreNotes is_stack texts noted
AreNotedFor is_stack LinesWithRuns None texts noted = AreNotes is_stack texts noted
AreNotedFor is_stack SarifWithRuns None texts noted = AreNotes is_stack texts noted
AreNotedFor is_stack form None texts noted = noted ≡ []

-- for people it is also told what came of findings in runs: in the notes' lines, and in no others
abbrev pub IsNoteTold : Form → List Text → RunSearch → ExplainOutput → Type 0
IsNoteTold Human texts search e = Tells texts search e.noted e.explained.output.items
IsNoteTold _ texts search e = Unit {0}

-- how runs are looked for, as it is asked for
abbrev pub search_of : SearchChoice → RunSearch
search_of c = record { states = c.states; is_stack = c.is_stack }

-- how it is printed: with colours or without, how runs are looked for, and which warnings are left out
abbrev pub look_of : ExplainOptions → Look
look_of asked = record { coloured = asked.coloured; search = search_of asked.search; options = asked.options }

-- for people all of what is printed is the reports with the notes, to the letter; a page has these without colours, after these drifts,
-- with pictures. The runs in other forms are those of the notes that a report has: one of each finding that it reports by itself
abbrev pub IsPrintTold : Form → Look → List DriftedFile → List Source → ExplainOutput → Type 0
IsPrintTold Human look drifted sources e = IsPrint look sources e.noted e.explained.output.items e.explained.status
IsPrintTold Html look drifted sources e =
    IsPaged look (drifts_told Html drifted) sources e.noted e.explained.output.items e.explained.status
IsPrintTold LinesWithRuns look drifted sources e = AreNotes look.search.is_stack (texts_of sources) e.noted
IsPrintTold SarifWithRuns look drifted sources e = AreNotes look.search.is_stack (texts_of sources) e.noted
IsPrintTold _ look drifted sources e = Unit {0}

-- all that is known of what is told of texts, with these drifts within a page or a document, and beside the files that aren't read
pub record IsToldUnder (form : Form) (look : Look) (journal : Option Text) (drifted : List DriftedFile) (sources : List Source)
    (unread : List UnreadFile) (e : ExplainOutput) : Type 0 where
  pub told : IsTold form look.options drifted sources unread e
  pub noted : AreNotedFor look.search.is_stack form journal (texts_of sources) e.noted
  pub notes : IsNoteTold form (texts_of sources) look.search e
  pub print : IsPrintTold form look drifted sources e

-- this is what is told of texts, after drifts that are worth this status
pub record IsAfter (drifts : Text) (worth : ℕ) (own e : ExplainOutput) : Type 0 where
  pub output : e.explained.output.items ≡ drifts ++ own.explained.output.items
  pub status : e.explained.status ≡ max own.explained.status worth
  pub noted : e.noted ≡ own.noted

-- the drifts that come before what a form prints of texts: a page has them within it
abbrev pub first_in : Form → List DriftedFile → Text
first_in Html drifted = []
first_in form drifted = drifts_told form drifted

-- the same after these drifts, or with them within it
pub record IsToldWith (form : Form) (look : Look) (journal : Option Text) (drifted : List DriftedFile) (sources : List Source)
    (unread : List UnreadFile) (e : ExplainOutput) : Type 0 where
  pub own : ExplainOutput
  pub told : IsToldUnder form look journal drifted sources unread own
  pub after : IsAfter (first_in form drifted) (drift_status look.options.is_strict drifted) own e

-- the same of files that are read, of the texts that they make, and of the drifts of the C files among them but for kinds of these names;
-- of the files these aren't read after all, and others aren't, either
pub record IsToldOfFiles (form : Form) (look : Look) (allowed : List Text) (journal : Option Text) (files : List Given)
    (refused texts : List Text) (unread : List UnreadFile) (e : ExplainOutput) : Type 0 where
  pub drifted : List DriftedFile
  pub compared : AreDrifted allowed files drifted
  pub sources : List Source
  pub are : AreSources (told_name form) files sources refused
  pub given : texts ≡ texts_of sources
  pub told : IsToldWith form look journal drifted sources unread e

-- the C files among some files, each in the place of its file
abbrev pub codes_in : List Given → List (Option Text)
codes_in files = map (λ (g : Given). g.code) files

-- the same of those of the files of these names that are read, of which these are C files
pub record IsToldOf (gives : Giving) (is_c : Bool) (form : Form) (look : Look) (allowed : List Text) (journal : Option Text)
    (names : List Text) (codes : List (Option Text)) (texts : List Text) (unread : List UnreadFile) (e : ExplainOutput) : Type 0 where
  pub files : List Given
  pub missing : List Text
  pub found : AreFound is_c gives names files missing
  pub coded : codes ≡ codes_in files
  pub refused : List Text
  pub others : unread_names unread ≡ missing ++ refused
  pub told : IsToldOfFiles form look allowed journal files refused texts unread e

-- those of the files of these names that are read, of which these are C files, make these texts
pub record GiveTexts (gives : Giving) (is_c : Bool) (names : List Text) (codes : List (Option Text)) (texts : List Text) : Type 0 where
  pub files : List Given
  pub missing : List Text
  pub found : AreFound is_c gives names files missing
  pub coded : codes ≡ codes_in files
  pub told : Text → Text
  pub sources : List Source
  pub refused : List Text
  pub are : AreSources told files sources refused
  pub given : texts ≡ texts_of sources

-- what is said of the texts that the FILEs that are read make, C files by their annotations, after the drifts of all C files but for
-- kinds of these names; a journal may not be written
abbrev pub IsExplained : Giving → Bool → Form → Look → List Text → Option Text → List Text → List (Option Text) → List Text →
    Result ExplainAnswer Failure → Type 0
IsExplained gives is_c form look allowed journal files codes texts (Ok (Explained e unread)) =
    IsToldOf gives is_c form look allowed journal files codes texts unread.items e
IsExplained gives is_c form look allowed journal files codes texts (Ok _) = ⊥
IsExplained gives is_c form look allowed journal files codes texts (Err (CannotWrite name why)) =
    (journal ≡ Some name.now) × GiveTexts gives is_c files codes texts
IsExplained gives is_c form look allowed journal files codes texts (Err _) = ⊥

-- whether there are colours: as the words say, or where these leave it to the terminal, whether it shows them
abbrev pub is_coloured : Colour → Bool → Bool
is_coloured Auto shown = shown
is_coloured Always shown = true
is_coloured Never shown = false

-- how it is printed then
abbrev pub look_in : Colour → Bool → SearchChoice → Choice → Look
look_in colour shown search warnings =
    record { coloured = is_coloured colour shown; search = search_of search; options = options_of warnings }

-- what is said of it: an answer, or that a file can't be written
abbrev pub said_of : Explanation → Result ExplainAnswer Failure
said_of (Said told unread) = Ok (Explained told unread)
said_of (Unwritten name why) = Err (CannotWrite name why)

-- this is what is told; or the file that is named for a journal can't be written
abbrev pub IsToldOrUnwritten : ExplainOutput → List UnreadFile → Option Text → Explanation → Type 0
IsToldOrUnwritten told unread journal (Said t others) = (t ≡ told) × (others.items ≡ unread)
IsToldOrUnwritten told unread journal (Unwritten name why) = journal ≡ Some name.now

-- ---- the journal of the first finding that has one

-- a journal's spelling is written under a name, and nothing else is done; where there is no journal, nothing is
abbrev pub IsSpelledAs : (Text → Text → Type 0) → (List Attempt → Type 0) → Text → Option Entries → Type 0
IsSpelledAs written does name (Some entries) = written name (spelling entries) × does (Wrote name (spelling entries) ∷ [])
IsSpelledAs written does name None = does []

-- it is written where a file is named for it, and nothing else is done
abbrev pub IsWritten : (Text → Text → Type 0) → (List Attempt → Type 0) → Option Text → ExplainAnswer → Type 0
IsWritten written does (Some name) (Explained e unread) = IsSpelledAs written does name (first_journal e.noted)
IsWritten written does _ answer = does []

-- the same where there is an answer; where there is none, the file couldn't be written, or nothing is done
abbrev pub IsWrittenFor : (Text → Text → Type 0) → (List Attempt → Type 0) → Option Text → Result ExplainAnswer Failure → Type 0
IsWrittenFor written does journal (Ok answer) = IsWritten written does journal answer
IsWrittenFor written does (Some name) (Err f) = IsUndone does name f
IsWrittenFor written does None (Err f) = does []

-- ---- what goes out before the end

-- nothing goes out before all is known: a document is written whole, and a journal before it
abbrev pub HoldsBack : Form → Option Text → Type 0
HoldsBack form (Some name) = Unit {0}
HoldsBack Sarif None = Unit {0}
HoldsBack Html None = Unit {0}
HoldsBack LinesWithRuns None = Unit {0}
HoldsBack SarifWithRuns None = Unit {0}
HoldsBack form None = ⊥

-- what goes out before the end where nothing is held back: for people the reports of all texts but the last, else all lines
abbrev pub GoesOutEarly : Form → WarningOptions → List Source → RunSearch → ExplainOutput → Type 0
GoesOutEarly Human options sources search e = IsAllButLast options sources search (take e.sent e.explained.output.items)
GoesOutEarly Short options sources search e = e.sent ≡ length e.explained.output.items
GoesOutEarly Lines options sources search e = e.sent ≡ length e.explained.output.items
GoesOutEarly Sarif options sources search e = Unit {0}
GoesOutEarly Html options sources search e = Unit {0}
GoesOutEarly LinesWithRuns options sources search e = Unit {0}
GoesOutEarly SarifWithRuns options sources search e = Unit {0}

-- what went out of an answer; where there is none, nothing did
abbrev pub IsSent : Option Text → Option Text → Result ExplainAnswer Failure → Type 0
IsSent old new (Ok answer) = Shows old new (take (sent_of answer) (output answer))
IsSent old new (Err f) = Shows old new []

-- where memory runs out, what went out is told of the first texts: whole reports, or whole lines of each
abbrev pub IsCutIn : Form → WarningOptions → RunSearch → List Source → Option Text → Option Text → Type 0
IsCutIn Human options search sources old new = IsCut options sources search old new
IsCutIn Short options search sources old new = AreFirstLines Sentence options sources old new
IsCutIn Lines options search sources old new = AreFirstLines Object options sources old new
IsCutIn Sarif options search sources old new = Shows old new []
IsCutIn Html options search sources old new = Shows old new []
IsCutIn LinesWithRuns options search sources old new = Shows old new []
IsCutIn SarifWithRuns options search sources old new = Shows old new []

-- the same after these drifts; or nothing went out
pub data IsCutAfter (drifts : Text) (form : Form) (options : WarningOptions) (search : RunSearch) (sources : List Source)
    (old new : Option Text) : Type 0 where
  nothing_out : Shows old new [] → IsCutAfter drifts form options search sources old new
  drifts_out : (between : Option Text) → Shows old between drifts → IsCutIn form options search sources between new →
      IsCutAfter drifts form options search sources old new

-- the same of the texts that files make that are read, after the drifts of the C files among them but for kinds of these names; or
-- nothing went out
pub data IsCutOfFiles (form : Form) (options : WarningOptions) (search : RunSearch) (allowed : List Text) (files : List Given)
    (old new : Option Text) : Type 0 where
  none_told : Shows old new [] → IsCutOfFiles form options search allowed files old new
  some_told : (drifted : List DriftedFile) (sources : List Source) (refused : List Text) → AreDrifted allowed files drifted →
      AreSources (told_name form) files sources refused → IsCutAfter (first_in form drifted) form options search sources old new →
      IsCutOfFiles form options search allowed files old new

-- the same of those of the files of these names that are read; or nothing went out
pub data IsCutShort (gives : Giving) (is_c : Bool) (form : Form) (options : WarningOptions) (search : RunSearch) (allowed names : List Text)
    (old new : Option Text) :
    Type 0 where
  none_read : Shows old new [] → IsCutShort gives is_c form options search allowed names old new
  some_read : (files : List Given) (missing : List Text) → AreFound is_c gives names files missing →
      IsCutOfFiles form options search allowed files old new → IsCutShort gives is_c form options search allowed names old new

-- ---- pages

-- the first name that no page has
pub record IsUnpaged (names : List Text) (name : Text) : Type 0 where
  pub before : List Text
  pub after : List Text
  pub parts : names ≡ before ++ name ∷ after
  pub paged : list_all has_page before ≡ true
  pub none : has_page name ≡ false

-- what is said of names that have pages: for each a text that begins with it, in order; memory may run out. The first name that no page has
-- can't be read
abbrev pub ArePaged : List Text → Result ExplainAnswer Failure → Type 0
ArePaged names (Ok (Pages pages)) = AllZip (λ name page. StartsWith page.now (title name)) names pages.items
ArePaged names (Err (CannotRead unread)) = IsUnpaged names unread.now
ArePaged names (Err OutOfMemory) = Unit {0}
ArePaged names _ = ⊥
