-- What a command line comes to: what is read, what is said of it, how that is printed,
-- what it is worth and what is kept. This project's own program.
use Rattle.std.specs.Io.KnownBytes.{Appends}
use Rattle.std.specs.Prelude.{◌≡◌, ◌≢◌, ℕ, Bool, true, false, List, [], ◌∷◌, ◌++◌, Option, Some, None, Result}
use Rattle.std.specs.Prelude.{Ok, Err, IfOk, OnOk, codes, drop, map, option_map, unwrap_or}
use Rattle.flt_commands_explain.specs.Allowed.{options_of}
use Rattle.flt_commands_texts.specs.Analyse.{IsAnalysed}
use Rattle.flt_commands.specs.Answer.{IsOf, ending_of, output, remark, status_of}
use Rattle.flt_door.specs.Door.{AreShown, at_door}
use Rattle.flt_files.specs.Attempts.{Attempt, AreDeedsOf}
use Rattle.flt_files.specs.Deeds.{Deed}
use Rattle.flt_commands_texts.specs.Check.{IsChecked}
use Rattle.flt_commands.specs.Clean.{IsClean}
use Rattle.flt_commands_texts.specs.Compare.{IsCompared}
use Rattle.flt_commands_runs.specs.Drawn.{IsDrawnFor}
use Rattle.flt_commands_texts.specs.Emit.{IsEmitted}
use Rattle.flt_commands_texts.specs.EmitInto.{ArePut, IsEmittedInto, remark_in}
use Rattle.flt_commands_explain.specs.Explain as explain
use Rattle.flt_commands_explain.specs.Explain.{ArePaged, IsExplained, IsWrittenFor, look_in, search_of}
use Rattle.flt_commands_texts.specs.Extract.{IsExtracted}
use Rattle.flt_commands.specs.FailureLine.{failure_line}
use Rattle.flt_commands_texts.specs.LayoutRemarks.{remarks_in}
use Rattle.flt_commands_texts.specs.Format.{AreChanged, IsFormatSaid}
use Rattle.flt_commands_texts.specs.Functions.{AreListed}
use Rattle.flt_c_functions.specs.Options.{lines_of}
use Rattle.flt_files.specs.Inputs.{Giving, IsUnread, Says, Text, gives_but}
use Rattle.flt_files.specs.Names.{names_of}
use Rattle.flt_commands_explain.specs.Remarks.{IsFound}
use Rattle.flt_commands_runs.specs.Replay.{IsKeptAs, IsReplayed, IsShown}
use Rattle.flt_commands_runs.specs.Running.{IsRan}
use Rattle.flt_commands_texts.specs.Thin.{IsThinned}
use Rattle.flt_words.specs.Request.{Asked, Check, Analyse, Thin, Run, Replay, Show, Explain}
use Rattle.flt_words.specs.Request.{Extract, Format, Pages, Emit, EmitInto, Compare, Functions, Serve}
use Rattle.flt_words.specs.declared.request.FormatMode.TheVariants.{Print, Write}
use Rattle.flt_commands.specs.declared.answer.Answer.{Answer}
use Rattle.flt_commands.specs.declared.answer.Answer.TheVariants.{OfText, OfRun, OfExplain}
use Rattle.flt_files.specs.declared.failure.Failure.{Failure}
use Rattle.flt_files.specs.declared.failure.Failure.TheVariants.{OutOfMemory}
use Rattle.flt_commands.specs.declared.report.Report.{Report}

-- ---- what is said

-- what the names may give: all their bytes, and of a name that is a text alone what is kept of them. `explain` reads all, since a FILE may
-- be a journal or C, and so does `emit --into`, since a source may be longer; so does `check` of a text and its certificate in one input
abbrev pub giving_for : Asked → Giving → Giving
giving_for (Check file cert) = gives_but (Some (unwrap_or cert file))
giving_for (Analyse file) = gives_but None
giving_for (Thin file cert) = gives_but (Some (unwrap_or cert file))
giving_for (Run workers quiet script files) = gives_but (Some script)
giving_for (Replay journal files) = gives_but (Some journal)
giving_for (Show timeline picture journal files) = gives_but (Some journal)
giving_for (Emit part file cert) = gives_but cert
giving_for request = λ gives. gives

-- a server reads its input piece by piece, so no name gives it: that of the standard input can't be read
abbrev pub IsUnserved : Result Answer Failure → Type 0
IsUnserved (Ok answer) = ⊥
IsUnserved (Err f) = IsUnread (codes "-") f

-- what is said of what is asked for, an answer or why there is none, where the names give these texts, of which these C files have the
-- annotations; `explain` alone says something of some of them where others can't be read, with colours where the words ask for them or a
-- terminal shows them
abbrev pub IsSaid : Bool → Giving → Asked → List (Option Text) → List Text → Result Answer Failure → Type 0
IsSaid shown gives (Check file cert) codes texts = IsOf OfText (Says gives (names_of (Check file cert)) IsChecked texts)
IsSaid shown gives (Analyse file) codes texts = IsOf OfText (Says gives (names_of (Analyse file)) IsAnalysed texts)
IsSaid shown gives (Thin file cert) codes texts = IsOf OfText (Says gives (names_of (Thin file cert)) IsThinned texts)
IsSaid shown gives (Run workers quiet script files) codes texts =
    IsOf OfRun (Says gives (names_of (Run workers quiet script files)) IsRan texts)
IsSaid shown gives (Replay journal files) codes texts = IsOf OfRun (Says gives (names_of (Replay journal files)) IsReplayed texts)
IsSaid shown gives (Show timeline picture journal files) codes texts =
    IsOf OfRun (Says gives (names_of (Show timeline picture journal files)) (IsShown timeline picture) texts)
IsSaid shown gives (Explain form colour search journal warnings is_c files) codes texts =
    IsOf OfExplain (IsExplained gives is_c form (look_in colour shown search warnings) warnings.allowed journal files codes texts)
IsSaid shown gives (Extract of_map files) codes texts =
    IsOf OfText (Says gives (names_of (Extract of_map files)) (IsExtracted of_map files) texts)
IsSaid shown gives (Format mode files) codes texts = IsOf OfText (IsFormatSaid gives mode files texts)
IsSaid shown gives (Pages names) codes texts = IsOf OfExplain (Says gives (names_of (Pages names)) (λ read. ArePaged names) texts)
IsSaid shown gives (Emit part file cert) codes texts = IsOf OfText (Says gives (names_of (Emit part file cert)) (IsEmitted part) texts)
IsSaid shown gives (EmitInto folder is_forced file cert) codes texts =
    IsOf OfText (Says gives (names_of (EmitInto folder is_forced file cert)) (IsEmittedInto gives is_forced folder) texts)
IsSaid shown gives (Compare files) codes texts = IsOf OfText (Says gives (names_of (Compare files)) (IsCompared files) texts)
IsSaid shown gives (Functions defined undefined folders files) codes texts =
    IsOf OfText (Says gives (names_of (Functions defined undefined folders files))
    (AreListed gives folders (lines_of defined undefined) files) texts)
IsSaid shown gives Serve codes texts = IsUnserved

-- ---- how that is printed

-- nothing on the standard output, and the status 2: the words can't be taken, something can't be read, or is wrong
abbrev pub IsNothing : List ℕ → ℕ → Type 0
IsNothing bytes status = (bytes ≡ []) × (status ≡ 2)

-- what stands on the standard output, and the exit status; where memory ran out, nothing does
abbrev pub IsReported : Result Answer Failure → List ℕ → ℕ → Type 0
IsReported (Ok answer) bytes status = (bytes ≡ output answer) × (status ≡ status_of answer)
IsReported (Err f) bytes status = (f ≢ OutOfMemory) × IsNothing bytes status

-- what stands on the standard error after these bytes: with a journal, how its run ended, where it didn't end with its script; with no
-- answer, the line that says why
abbrev pub IsRemarkedAfter : List ℕ → Result Answer Failure → List ℕ → Type 0
IsRemarkedAfter before (Ok answer) bytes = bytes ≡ before ++ remark (ending_of answer)
IsRemarkedAfter before (Err f) bytes = bytes ≡ before ++ (failure_line f ++ 10 ∷ [])

-- what may stand before it: which files of `explain` and `format` aren't read; why a file isn't written or has no layout; that no run
-- is found; and which files of a driver are as they were or aren't written
abbrev pub IsBefore : Asked → Result Answer Failure → List ℕ → Type 0
IsBefore (Explain form colour search journal warnings is_c files) said bytes = IsOf OfExplain (λ own. IsFound journal own bytes) said
IsBefore (Show timeline picture journal files) said bytes = OnOk said (bytes ≡ [])
IsBefore (Format mode files) said bytes = IsOf OfText (λ own. IfOk own (λ answer. bytes ≡ remarks_in answer)) said
IsBefore (EmitInto folder is_forced file cert) said bytes = IsOf OfText (λ own. bytes ≡ remark_in own) said
IsBefore request said bytes = bytes ≡ []

-- all that stands on the standard error
abbrev pub IsRemarked : Asked → Result Answer Failure → List ℕ → Type 0
IsRemarked request said bytes = (before : List ℕ) × IsBefore request said before × IsRemarkedAfter before said bytes

-- ---- what goes out before the end

-- nothing goes out before all is known, but of `explain` of files, and there only where a form isn't one document and no file is named
-- for a journal
abbrev pub HoldsBack : Option Asked → Type 0
HoldsBack (Some (Explain form colour search journal warnings is_c files)) = explain.HoldsBack form journal
HoldsBack request = Unit {0}

-- where memory runs out, nothing went out, or of `explain` what is told of the first files that are read
abbrev pub IsCutShort : Giving → Option Asked → Option Text → Option Text → Type 0
IsCutShort gives (Some (Explain form colour search journal warnings is_c files)) old new =
    explain.IsCutShort gives is_c form (options_of warnings) (search_of search) warnings.allowed files old new
IsCutShort gives request old new = Appends old new []

-- no file is named for the journal of a finding, and no folder for a driver
abbrev pub NamesNoJournal : Option Asked → Type 0
NamesNoJournal (Some (Explain form colour search (Some journal) warnings is_c files)) = ⊥
NamesNoJournal (Some (EmitInto folder is_forced file cert)) = ⊥
NamesNoJournal request = Unit {0}

-- no file is named for what is made: for the journal of a finding, a picture, layouts or a driver
abbrev pub WritesNoFile : Option Asked → Type 0
WritesNoFile (Some (Explain form colour search (Some journal) warnings is_c files)) = ⊥
WritesNoFile (Some (Show timeline (Some picture) journal files)) = ⊥
WritesNoFile (Some (Format Write files)) = ⊥
WritesNoFile (Some (EmitInto folder is_forced file cert)) = ⊥
WritesNoFile request = Unit {0}

-- ---- all of it

-- the texts that a report has
abbrev pub texts_in : Report → List Text
texts_in report = map (λ text. text.items) report.texts.items

-- the C files that it has: for each text the one whose annotations it is, or none
abbrev pub codes_of : Report → List (Option Text)
codes_of report = map (option_map (λ code. code.items)) report.codes.items

-- only a report of `explain` on files has any
abbrev pub HasCodes : Asked → Report → Type 0
HasCodes (Explain form colour search journal warnings is_c files) report = Unit {0}
HasCodes request report = report.codes.items ≡ []

-- what the names give is what the report has: the texts, and first the journal, where one was read
abbrev pub AreThose : Asked → Report → List Text → Result Answer Failure → Type 0
AreThose (Replay journal files) report texts said =
    (bytes : Text) × (texts ≡ bytes ∷ texts_in report) × IsKeptAs report.journal bytes said
AreThose (Show timeline picture journal files) report texts said =
    (bytes : Text) × (texts ≡ bytes ∷ texts_in report) × IsKeptAs report.journal bytes said
AreThose request report texts said = texts ≡ texts_in report

-- where a file is named for it, the journal of the first finding that has one, or the picture of the journal that is shown, is written
-- there; where layouts are written, each goes into its file; a driver's parts go into its folder; and nothing else is done to files: where
-- no file is named for a picture or a journal, and no layout and no driver is written, nothing is
abbrev pub IsKept : (Text → Text → Type 0) → (List Attempt → Type 0) → Asked → List Text → Result Answer Failure → Type 0
IsKept written does (Explain form colour search journal warnings is_c files) texts said = IsOf OfExplain (IsWrittenFor written does journal) said
IsKept written does (Show timeline picture journal files) texts said = IsOf OfRun (IsDrawnFor written does picture (drop 1 texts)) said
IsKept written does (Format Write files) texts said = IsOf OfText (λ own. IfOk own (AreChanged written does)) said
IsKept written does (EmitInto folder is_forced file cert) texts said = IsOf OfText (ArePut written does folder texts) said
IsKept written does request texts said = does []

-- the report on what is asked for. All of it speaks of the same texts, which are the report's, and of its C files:
-- they are what the names give; this is said of them; that is what the report has for the standard output,
-- for the exit status and for the standard error; with the status 0 the filters
-- that they spell break nothing; and what is written for it into a file, or that all that is written stays as it was
pub record IsAnswered (shown : Bool) (gives : Giving) (written : Text → Text → Type 0) (does : List Attempt → Type 0) (request : Asked)
    (report : Report) : Type 0 where
  pub said : Result Answer Failure
  pub texts : List Text
  pub those : AreThose request report texts said
  pub coded : HasCodes request report
  pub is : IsSaid shown (giving_for request gives) request (codes_of report) texts said
  pub reported : IsReported said report.output.items report.status
  pub remarked : IsRemarked request said report.remark.items
  pub clean : report.status ≡ 0 → IsClean request texts
  pub kept : IsKept written does request texts said

-- the report on a command line by what it asks for; where that is nothing, there is a text about its use
abbrev pub AnswersFor : Bool → Giving → (Text → Text → Type 0) → (List Attempt → Type 0) → Option Asked → Report → Type 0
AnswersFor shown gives written does None report = IsNothing report.output.items report.status × does []
AnswersFor shown gives written does (Some request) report = IsAnswered shown gives written does request report

-- ---- what goes out of it

-- the bytes for the standard output are the user's own, and go out as they are: text of annotations, a layout, or a part of a driver
abbrev pub gives_bytes : Option Asked → Bool
gives_bytes (Some (Extract of_map files)) = true
gives_bytes (Some (Format Print files)) = true
gives_bytes (Some (Emit part file cert)) = true
gives_bytes request = false

-- what goes out on the standard output: all other bytes pass the door
abbrev pub out_of : Bool → Text → Text
out_of true bytes = bytes
out_of false bytes = at_door bytes

-- this is what goes out of a report
pub record IsLetOut (gives_bytes : Bool) (own report : Report) : Type 0 where
  pub texts : report.texts ≡ own.texts
  pub codes : report.codes ≡ own.codes
  pub journal : report.journal ≡ own.journal
  pub output : report.output.items ≡ out_of gives_bytes own.output.items
  pub remark : report.remark.items ≡ at_door own.remark.items
  pub status : report.status ≡ own.status

-- what goes out of the report on a command line
abbrev pub Answers : Bool → Giving → (Text → Text → Type 0) → (List Attempt → Type 0) → Option Asked → Report → Type 0
Answers shown gives written does request report =
    (own : Report) × AnswersFor shown gives written does request own × IsLetOut (gives_bytes request) own report

-- each byte that goes out is a line feed, or belongs to a character that is shown or to one of the program's own colours; the bytes that
-- are the user's own may be others
pub record AllIsShown (request : Option Asked) (report : Report) : Type 0 where
  pub output : gives_bytes request ≡ false → AreShown report.output.items
  pub remark : AreShown report.remark.items

-- the same, where nobody knows whether a terminal shows colours; and all that was done to files is this
abbrev pub AnswersSomehow : Giving → (Text → Text → Type 0) → List Deed → Option Asked → Report → Type 0
AnswersSomehow gives written done request report =
    (shown : Bool) × Answers shown gives written (λ attempts. AreDeedsOf attempts done) request report
