-- What is printed of files for people, from the first line to the last. This project's own program.
use Rattle.std.specs.Prelude.{◌≡◌, ◌⊎◌, ℕ, ◌+◌, Bool, false, List, [], ◌∷◌, ◌++◌, Some, length, map, max, slice_get}
use Rattle.flt_syntax.specs.declared.fault.SyntaxFault.{SyntaxFault}
use Rattle.flt_tree.specs.Names.{Text}
use Rattle.flt_tree.specs.declared.filter.Filter.{Filter}
use Rattle.flt_tree.specs.declared.tree.Tree.{Tree}
use Rattle.flt_graph.specs.declared.graph.Graph.{Graph}
use Rattle.flt_explain.specs.declared.finding.Finding.{Finding}
use Rattle.flt_explain_origins.specs.declared.grouping.Group.{Group}
use Rattle.flt_model.specs.Program.{filters_of}
use Rattle.flt_explain_reasons.specs.Notice as notices
use Rattle.flt_explain_reasons.specs.declared.notice.Kind.{Kind}
use Rattle.flt_explain_reasons.specs.declared.notice.Notice.{Notice}
use Rattle.flt_places.specs.declared.files.Files.{Files}
use Rattle.flt_explain_texts.specs.Closing.{fault_closing, findings_closing}
use Rattle.flt_explain_texts.specs.Reports.{IsKnown, name_of, texts_of}
use Rattle.flt_explain_texts.specs.declared.sources.Source.{Source}
use Rattle.flt_explain_ways.specs.declared.tracing.Traces.{Traces}
use Rattle.flt_explain_reports.specs.Fault.{IsFaultReport}
use Rattle.flt_explain_ways.specs.Reported.{AreReportedBy}
use Rattle.flt_explain_reports.specs.Reports.{AreLines}
use Rattle.flt_explain_outcomes.specs.Schedules.{only}
use Rattle.flt_explain_warning_details.specs.Details.{AreWarningDetails}
use Rattle.flt_explain_warning_details.specs.Orderly.{PromisesOrder}
use Rattle.flt_explain_warning_details.specs.Options.{warned_status}
use Rattle.flt_explain_warning_details.specs.declared.detail.WarningDetail.{WarningDetail}
use Rattle.flt_explain_warning_details.specs.declared.options.WarningOptions.{WarningOptions}
use Rattle.flt_explain_runs.specs.Lines.{again_line, note_line}
use Rattle.flt_explain_outcomes.specs.Noted.{AreNoted, reported_in}
use Rattle.flt_explain_runs.specs.Notices.{AreNoticeLines, detaches}
use Rattle.flt_explain_outcomes.specs.Parsed.{AreFilesOf, AreParsed, IsOther, IsUnread}
use Rattle.flt_explain_runs.specs.Quiet.{quieted}
use Rattle.flt_explain_runs.specs.Reported.{faults_in, stack_of}
use Rattle.flt_explain_runs.specs.Rows.{AreAgainRows, AreNoteRows}
use Rattle.flt_explain_runs.specs.Totals.{some, summary}
use Rattle.flt_explain_runs.specs.Warned.{Warned}
use Rattle.flt_explain_runs.specs.Warnings.{ArePromised}
use Rattle.flt_explain_runs.specs.declared.explaining.Asking.{Asking}
use Rattle.flt_explain_outcomes.specs.declared.noted.Note.{Note}
use Rattle.flt_explain_outcomes.specs.declared.schedules.RunSearch.{RunSearch}

-- with colours or without, how runs are looked for, and which warnings are left out and whether they count
pub record Look : Type 0 where
  pub coloured : Bool
  pub search : RunSearch
  pub options : WarningOptions

-- the same, as it is asked for
abbrev pub look_for : Asking → Look
look_for asking = record { coloured = asking.coloured; search = asking.search; options = asking.options }

-- ---- a text that parses

-- what is printed of a group of findings of a text in these files, with this note: its report; the line of the note, and rows; the line on
-- one more callback, and rows
pub record IsBlock (look : Look) (trees : List Tree) (files : List Files) (own : Files) (text : Text) (f : Filter) (graph : Graph)
    (traces : Traces) (group : Group) (n : Note) (printed : List ℕ) : Type 0 where
  pub report : List ℕ
  pub drawn : AreLines look.coloured own text f graph traces group report
  pub rows : List ℕ
  pub are : AreNoteRows trees files n rows
  pub again : List ℕ
  pub more : AreAgainRows text own n.again again
  pub whole : printed ≡ quieted report ++ note_line trees look.search n ++ quieted rows ++ again_line n.again ++ quieted again

-- the same of each group and its note, one below the other
pub data AreBlocks (look : Look) (trees : List Tree) (files : List Files) (own : Files) (text : Text) (f : Filter) (graph : Graph)
    (traces : Traces) : List Group → List Note → List ℕ → Type 0 where
  no_block : AreBlocks look trees files own text f graph traces [] [] []
  one_block_more : {groups : List Group} {notes : List Note} {printed : List ℕ} {group : Group} {n : Note} {block : List ℕ} →
      AreBlocks look trees files own text f graph traces groups notes printed →
      IsBlock look trees files own text f graph traces group n block →
      AreBlocks look trees files own text f graph traces (groups ++ group ∷ []) (notes ++ n ∷ []) (printed ++ block)

-- the report of each group of the findings of a text, with the note on the finding that is reported for it
pub record AreReportsWithNotes (look : Look) (trees : List Tree) (files : List Files) (s : Source) (tree : Tree) (graph : Graph)
    (found : List Finding) (notes : List Note) (printed : List ℕ) : Type 0 where
  pub traces : Traces
  pub reported : AreReportedBy graph found traces (map reported_in notes)
  pub blocks : AreBlocks look trees files s.files s.text.now tree.filter graph traces traces.groups notes printed

-- a text with warnings, whose tree is that of this place
abbrev pub warned_at : Look → List Tree → ℕ → Source → Tree → Warned
warned_at look trees place s tree = record {
  coloured = look.coloured;
  states = look.search.states;
  own = only trees place;
  filter = tree.filter;
  files = s.files;
  text = s.text.now;
}

-- what is said where nothing is found: what that promises, and the warnings; there are no notes
pub record AreWarningsAlone (x : Warned) (details : List WarningDetail) (notes : List Note) (printed : List ℕ) : Type 0 where
  pub none : notes ≡ []
  pub lines : List ℕ
  pub are : ArePromised x details lines
  pub whole : printed ≡ quieted lines

-- what is above the last line: what is said where nothing is found, with the warnings, or the reports with their notes
abbrev pub IsBody : Look → List Tree → List Files → ℕ → Source → Tree → Graph → List Finding → List WarningDetail → List Note →
    List ℕ → Type 0
IsBody look trees files place s tree graph [] details notes printed = AreWarningsAlone (warned_at look trees place s tree) details notes
    printed
IsBody look trees files place s tree graph (f ∷ fs) details notes printed = AreReportsWithNotes look trees files s tree graph (f ∷ fs)
    notes printed

-- what is printed of a text that parses, whose tree is that of this place, with its status and how many findings it has: what is printed
-- and the status are of the same warnings
-- (`order`: where nothing is found and no circle of locks is warned of, its filter takes its locks in an order)
pub record IsKnownPrint (look : Look) (trees : List Tree) (files : List Files) (place : ℕ) (s : Source) (notes : List Note)
    (printed : List ℕ)
    (status count : ℕ) : Type 0 where
  pub tree : Tree
  pub own : slice_get trees place ≡ Some tree
  pub graph : Graph
  pub found : List Finding
  pub known : IsKnown s.text.now tree graph found
  pub noted : AreNoted look.search.is_stack trees s.text.now place graph found notes
  pub details : List WarningDetail
  pub warned : AreWarningDetails s.files s.text.now tree.filter graph found look.options.allowed details
  pub order : PromisesOrder found look.options.allowed details tree.filter
  pub above : List ℕ
  pub body : IsBody look trees files place s tree graph found details notes above
  pub whole : printed ≡ above ++ findings_closing s.files found
  pub worth : status ≡ warned_status look.options.is_strict found details
  pub many : count ≡ length found

-- ---- one that doesn't

-- what is printed of a text that doesn't parse, and isn't taken for anything else
pub record IsUnreadPrint (look : Look) (s : Source) (printed : List ℕ) (status count : ℕ) : Type 0 where
  pub fault : SyntaxFault
  pub unread : IsUnread s.text.now fault
  pub lines : List ℕ
  pub are : IsFaultReport look.coloured s.files s.text.now lines
  pub whole : printed ≡ quieted lines ++ fault_closing s.files fault
  pub worth : status ≡ 2
  pub many : count ≡ 1

-- a script detaches filters, and no text parses that they could be of
abbrev pub is_alone : List Tree → Text → Bool
is_alone [] text = detaches text
is_alone (t ∷ ts) text = false

-- what is printed of a certificate, a journal or a script. These are the trees of the texts that parse
pub record IsNoticePrint (look : Look) (trees : List Tree) (s : Source) (printed : List ℕ) (status count : ℕ) : Type 0 where
  pub kind : Kind
  pub other : IsOther s.text.now kind
  pub notice : Notice
  pub is : notices.IsNotice (stack_of (filters_of trees)) kind s.text.now notice
  pub lines : List ℕ
  pub are : AreNoticeLines look.coloured (is_alone trees s.text.now) (name_of s) notice lines
  pub whole : printed ≡ quieted lines ++ notices.closing notice
  pub worth : status ≡ notices.status_of notice
  pub many : count ≡ faults_in notice

-- either of them
abbrev pub IsFailedPrint : Look → List Tree → Source → List ℕ → ℕ → ℕ → Type 0
IsFailedPrint look trees s printed status count =
    IsUnreadPrint look s printed status count ⊎ IsNoticePrint look trees s printed status count

-- ---- several

-- what is printed of each file, with an empty line below, and how many of them parse; with the greatest status, and so many findings in so
-- many files
pub data ArePrints (look : Look) (trees : List Tree) (files : List Files) : ℕ → List Source → List Note → List ℕ → ℕ → ℕ → ℕ → Type 0 where
  no_print : ArePrints look trees files 0 [] [] [] 0 0 0
  fails : {place : ℕ} {ss : List Source} {ns : List Note} {printed : List ℕ} {greatest findings many : ℕ} {s : Source} {own : List ℕ}
      {status count : ℕ} → ArePrints look trees files place ss ns printed greatest findings many → IsFailedPrint look trees s own status
      count →
      ArePrints look trees files place (ss ++ s ∷ []) ns (printed ++ own ++ 10 ∷ []) (max greatest status) (findings + count)
      (many + some count)
  parses : {place : ℕ} {ss : List Source} {ns : List Note} {printed : List ℕ} {greatest findings many : ℕ} {s : Source}
      {more : List Note} {own : List ℕ} {status count : ℕ} → ArePrints look trees files place ss ns printed greatest findings many →
      IsKnownPrint look trees files place s more own status count →
      ArePrints look trees files (place + 1) (ss ++ s ∷ []) (ns ++ more) (printed ++ own ++ 10 ∷ []) (max greatest status)
      (findings + count)
      (many + some count)

-- the same of several files, and a line that says how much is found
pub record AreSeveralPrinted (look : Look) (trees : List Tree) (files : List Files) (sources : List Source) (notes : List Note)
    (printed : List ℕ)
    (status : ℕ) : Type 0 where
  pub place : ℕ
  pub prints : List ℕ
  pub findings : ℕ
  pub many : ℕ
  pub are : ArePrints look trees files place sources notes prints status findings many
  pub whole : printed ≡ prints ++ summary findings many (length sources) ++ 10 ∷ []

-- what is printed of one file alone
pub record IsOnePrinted (look : Look) (trees : List Tree) (files : List Files) (s : Source) (notes : List Note) (printed : List ℕ)
    (status : ℕ) : Type 0 where
  pub count : ℕ
  pub is : IsKnownPrint look trees files 0 s notes printed status count ⊎ ((notes ≡ []) × IsFailedPrint look trees s printed status count)

-- what is printed of files, where there are none, one or several
abbrev pub IsPrintOfAll : Look → List Tree → List Files → List Source → List Note → List ℕ → ℕ → Type 0
IsPrintOfAll look trees files [] notes printed status = (notes ≡ []) × (printed ≡ []) × (status ≡ 0)
IsPrintOfAll look trees files (s ∷ []) notes printed status = IsOnePrinted look trees files s notes printed status
IsPrintOfAll look trees files (s ∷ t ∷ ss) notes printed status = AreSeveralPrinted look trees files (s ∷ t ∷ ss) notes printed status

-- the same, where the trees and the files are those of the texts that parse
pub record IsPrint (look : Look) (sources : List Source) (notes : List Note) (printed : List ℕ) (status : ℕ) : Type 0 where
  pub trees : List Tree
  pub parsed : AreParsed (texts_of sources) (filters_of trees)
  pub files : List Files
  pub placed : AreFilesOf sources files
  pub are : IsPrintOfAll look trees files sources notes printed status
