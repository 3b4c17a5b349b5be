-- What is reported of files: of texts, and of certificates, journals and scripts. This project's own program.
use Rattle.std.specs.Prelude.{◌≡◌, ◌⊎◌, ℕ, ◌+◌, List, [], ◌∷◌, ◌++◌, Option, Some, None, length, max}
use Rattle.flt_door.specs.Lines.{Shows}
use Rattle.flt_stack_script.specs.ScriptText.{Stack}
use Rattle.flt_tree.specs.Names.{Text}
use Rattle.flt_tree.specs.declared.filter.Filter.{Filter}
use Rattle.flt_tree.specs.declared.tree.Tree.{Tree}
use Rattle.flt_graph.specs.declared.graph.Graph.{Graph}
use Rattle.flt_explain.specs.declared.finding.Finding.{Finding}
use Rattle.flt_model.specs.Program.{filters_of}
use Rattle.flt_explain_reasons.specs.Notice as notices
use Rattle.flt_explain_reasons.specs.declared.notice.Kind.{Kind}
use Rattle.flt_explain_reasons.specs.declared.notice.Notice.{Notice}
use Rattle.flt_explain_reasons.specs.declared.notice.Notice.TheVariants.{Whole, Malformed}
use Rattle.flt_explain_texts.specs.Closing as texts
use Rattle.flt_explain_texts.specs.Reports.{EndsWith, IsJudged, texts_of}
use Rattle.flt_explain_texts.specs.declared.judged.TextJudgement.{TextJudgement}
use Rattle.flt_explain_texts.specs.declared.judged.TextJudgement.TheVariants.{Unread, Known}
use Rattle.flt_explain_texts.specs.declared.sources.Source.{Source}
use Rattle.flt_explain_warning_details.specs.Details.{AreWarningDetails}
use Rattle.flt_explain_warning_details.specs.Options.{warned_status}
use Rattle.flt_explain_warning_details.specs.declared.detail.WarningDetail.{WarningDetail}
use Rattle.flt_explain_warning_details.specs.declared.options.WarningOptions.{WarningOptions}
use Rattle.flt_explain_outcomes.specs.Noted.{AreNotesIn}
use Rattle.flt_explain_outcomes.specs.Parsed.{AreParsed, IsOther, IsUnread}
use Rattle.flt_explain_runs.specs.Told.{Say}
use Rattle.flt_explain_runs.specs.Totals.{some, summary}
use Rattle.flt_explain_outcomes.specs.declared.noted.Note.{Note}
use Rattle.flt_explain_outcomes.specs.declared.schedules.RunSearch.{RunSearch}

-- ---- one file

-- what a text is that isn't taken for anything else: it has this first fault, or it is known
abbrev pub IsText : Text → TextJudgement → Type 0
IsText text (Unread f) = IsUnread text f
IsText text (Known tree graph found) = IsJudged text (Known tree graph found)

-- how many findings a text has; one that doesn't parse has its first fault
abbrev pub findings_in : TextJudgement → ℕ
findings_in (Unread f) = 1
findings_in (Known tree graph found) = length found

-- the same of a certificate, a journal or a script: its first malformed line, or none
abbrev pub faults_in : Notice → ℕ
faults_in (Whole kind count) = 0
faults_in (Malformed kind reason) = 1

-- the status of a text that parses: 1 where something is found, or where a warning counts that no comment of the text allows; else 0
pub record IsWarnedStatus (options : WarningOptions) (s : Source) (tree : Tree) (graph : Graph) (found : List Finding) (status : ℕ) :
    Type 0 where
  pub details : List WarningDetail
  pub are : AreWarningDetails s.files s.text.now tree.filter graph found options.allowed details
  pub worth : status ≡ warned_status options.is_strict found details

-- the same of any text: 2 where it doesn't parse
abbrev pub IsStatus : WarningOptions → Source → TextJudgement → ℕ → Type 0
IsStatus options s (Unread f) status = status ≡ 2
IsStatus options s (Known tree graph found) status = IsWarnedStatus options s tree graph found status

-- the report of a text ends with its last line
pub record IsTextReport (options : WarningOptions) (s : Source) (report : List ℕ) (status count : ℕ) : Type 0 where
  pub judged : TextJudgement
  pub is : IsText s.text.now judged
  pub own : IsStatus options s judged status
  pub counted : count ≡ findings_in judged
  pub ends : EndsWith report (texts.closing s.files judged)

-- the stack of these filters, where there are any
abbrev pub stack_of : List Filter → Stack
stack_of [] = None
stack_of (f ∷ fs) = Some (f ∷ fs)

-- the same of a certificate, a journal or a script: 0 where it is well-formed, else 2. These are the filters of the texts that parse
pub record IsNoticeReport (filters : List Filter) (text : Text) (report : List ℕ) (status count : ℕ) : Type 0 where
  pub kind : Kind
  pub other : IsOther text kind
  pub notice : Notice
  pub is : notices.IsNotice (stack_of filters) kind text notice
  pub own : status ≡ notices.status_of notice
  pub counted : count ≡ faults_in notice
  pub ends : EndsWith report (notices.closing notice)

-- the report of a file, with its status and how many findings it has
pub record IsReport (options : WarningOptions) (filters : List Filter) (s : Source) (report : List ℕ) (status count : ℕ) : Type 0 where
  pub is : IsTextReport options s report status count ⊎ IsNoticeReport filters s.text.now report status count

-- ---- several files

-- each file has its report, with an empty line behind it. Together they have the greatest status, and so many findings in so many files
pub data AreParts (options : WarningOptions) (filters : List Filter) : List Source → List ℕ → ℕ → ℕ → ℕ → Type 0 where
  none : AreParts options filters [] [] 0 0 0
  one_more : {sources : List Source} {printed : List ℕ} {greatest findings files : ℕ} {s : Source} {report : List ℕ} {status count : ℕ} →
      AreParts options filters sources printed greatest findings files → IsReport options filters s report status count →
      AreParts options filters (sources ++ s ∷ []) (printed ++ report ++ 10 ∷ []) (max greatest status) (findings + count)
      (files + some count)

-- the reports of several files, and a line that says how much is found
pub record AreSummed (options : WarningOptions) (filters : List Filter) (sources : List Source) (printed : List ℕ) (status : ℕ)
    : Type 0 where
  pub reports : List ℕ
  pub findings : ℕ
  pub files : ℕ
  pub are : AreParts options filters sources reports status findings files
  pub whole : printed ≡ reports ++ summary findings files (length sources) ++ 10 ∷ []

-- the report of one file
pub record IsAlone (options : WarningOptions) (filters : List Filter) (s : Source) (printed : List ℕ) (status : ℕ) : Type 0 where
  pub count : ℕ
  pub is : IsReport options filters s printed status count

-- what is reported of files, where there are none, one or several
abbrev pub AreAllReports : WarningOptions → List Filter → List Source → List ℕ → ℕ → Type 0
AreAllReports options filters [] printed status = (printed ≡ []) × (status ≡ 0)
AreAllReports options filters (s ∷ []) printed status = IsAlone options filters s printed status
AreAllReports options filters (s ∷ t ∷ ss) printed status = AreSummed options filters (s ∷ t ∷ ss) printed status

-- the same, where the filters are those of the texts that parse
pub record AreReports (options : WarningOptions) (sources : List Source) (printed : List ℕ) (status : ℕ) : Type 0 where
  pub filters : List Filter
  pub parsed : AreParsed (texts_of sources) filters
  pub are : AreAllReports options filters sources printed status

-- ---- the first files

-- each of these files, which come before others, has its whole report, with an empty line behind it, and the lines on runs in these are
-- those of the notes of these files
pub record AreFirst (options : WarningOptions) (before others : List Source) (search : RunSearch) (printed : List ℕ) : Type 0 where
  pub trees : List Tree
  pub parsed : AreParsed (texts_of (before ++ others)) (filters_of trees)
  pub status : ℕ
  pub findings : ℕ
  pub files : ℕ
  pub reports : AreParts options (filters_of trees) before printed status findings files
  pub place : ℕ
  pub notes : List Note
  pub noted : AreNotesIn search.is_stack trees place (texts_of before) notes
  pub said : Say trees search notes printed

-- what is printed is the whole reports of the first of some files
pub record IsBegun (options : WarningOptions) (sources : List Source) (search : RunSearch) (printed : List ℕ) : Type 0 where
  pub before : List Source
  pub others : List Source
  pub whole : sources ≡ before ++ others
  pub are : AreFirst options before others search printed

-- nothing is printed, or whole reports of the first of some files
abbrev pub AreWhole : WarningOptions → List Source → RunSearch → List ℕ → Type 0
AreWhole options sources search printed = (printed ≡ []) ⊎ IsBegun options sources search printed

-- the same of what is put out
pub record IsCut (options : WarningOptions) (sources : List Source) (search : RunSearch) (old new : Option (List ℕ)) : Type 0 where
  pub printed : List ℕ
  pub added : Shows old new printed
  pub are : AreWhole options sources search printed

-- the reports of all files but the last
pub record IsAllButOne (options : WarningOptions) (sources : List Source) (search : RunSearch) (printed : List ℕ) : Type 0 where
  pub before : List Source
  pub last : Source
  pub whole : sources ≡ before ++ last ∷ []
  pub are : AreFirst options before (last ∷ []) search printed

-- the same, where there are files
abbrev pub IsAllButLast : WarningOptions → List Source → RunSearch → List ℕ → Type 0
IsAllButLast options [] search printed = printed ≡ []
IsAllButLast options (s ∷ ss) search printed = IsAllButOne options (s ∷ ss) search printed
