-- What comes of the findings of texts in runs. This project's own definitions.
use Rattle.std.specs.Prelude.{◌≡◌, ℕ, ◌+◌, Bool, Contains, IfSome, List, [], ◌∷◌, ◌++◌, Option, Some, None, map, slice_get, slice_range}
use Rattle.flt_syntax.specs.TextFails.{Fails}
use Rattle.flt_syntax.specs.declared.fault.SyntaxFault.{SyntaxFault}
use Rattle.flt_places.specs.declared.files.Files.{Files}
use Rattle.flt_tree.specs.Names.{Text}
use Rattle.flt_tree.specs.declared.tree.Tree.{Tree}
use Rattle.flt_graph.specs.Graph.{place_at}
use Rattle.flt_graph.specs.declared.graph.Graph.{Graph}
use Rattle.flt_explain.specs.declared.finding.Finding.{Finding}
use Rattle.flt_model.specs.JournalText.{Entries}
use Rattle.flt_model.specs.Program.{filters_of}
use Rattle.flt_model.specs.declared.verdict.Violation.{Violation}
use Rattle.flt_replay.specs.Lesser.{BreaksRule}
use Rattle.flt_search.specs.Found.{IsFound}
use Rattle.flt_search.specs.declared.judging.BreakingJournal.{BreakingJournal}
use Rattle.flt_explain_texts.specs.Reports.{IsKnown}
use Rattle.flt_explain_ways.specs.Covering.{AreFirsts}
use Rattle.flt_explain_ways.specs.Reported.{AreReported}
use Rattle.flt_explain_ways.specs.declared.reported.ReportedFinding.{ReportedFinding}
use Rattle.flt_explain_outcomes.specs.Schedules.{IsScheduled, only}
use Rattle.flt_explain_outcomes.specs.Violations.{violations_of}
use Rattle.flt_explain_outcomes.specs.declared.schedules.Schedule.{Schedule}
use Rattle.flt_explain_outcomes.specs.declared.schedules.Schedule.TheVariants.{Breaks}
use Rattle.flt_explain_outcomes.specs.declared.schedules.JointOutcome.{JointOutcome}
use Rattle.flt_explain_outcomes.specs.declared.schedules.JointOutcome.TheVariants.{Together, Alone}
use Rattle.flt_explain_outcomes.specs.Parsed.{AreParsed}
use Rattle.flt_explain_outcomes.specs.Setters.{IsSetter}
use Rattle.flt_explain_outcomes.specs.declared.noted.SetterOutcome.{SetterOutcome}
use Rattle.flt_explain_outcomes.specs.declared.noted.SetterOutcome.TheVariants.{Runs, RunsNowhere}
use Rattle.flt_explain_outcomes.specs.declared.noted.Note.{Note}
use Rattle.flt_explain_outcomes.specs.declared.setters.Setter.{Setter}

-- ---- the first journal

-- what comes of a finding, in whichever runs
abbrev pub schedule_of : JointOutcome → Schedule
schedule_of (Together s) = s
schedule_of (Alone s) = s

-- the journal that breaks something
abbrev pub journal_in : Schedule → Option Entries
journal_in (Breaks b) = Some b.journal
journal_in _ = None

abbrev pub journal_of : Note → Option Entries
journal_of n = journal_in (schedule_of n.scheduled)

-- the first of two
abbrev pub one_or : Option Entries → Option Entries → Option Entries
one_or (Some j) other = Some j
one_or None other = other

-- the journal of the first finding that has one
abbrev pub first_journal : List Note → Option Entries
first_journal [] = None
first_journal (n ∷ ns) = one_or (journal_of n) (first_journal ns)

-- ---- one note

-- the trees of the filters in whose runs something came of a finding of the filter of a number: all, or that one alone
abbrev pub own_of : List Tree → ℕ → JointOutcome → List Tree
own_of trees place (Together s) = trees
own_of trees place (Alone s) = only trees place

-- the files of the filters in whose runs something came of a finding of the filter of a number: of all, or of that one alone
abbrev pub own_files : List Files → ℕ → JointOutcome → List Files
own_files files place (Together s) = files
own_files files place (Alone s) = slice_range files place (place + 1)

-- the run of a note breaks this by its last entry
pub record IsBrokenBy (trees : List Tree) (n : Note) (v : Violation) : Type 0 where
  pub run : BreakingJournal
  pub runs : schedule_of n.scheduled ≡ Breaks run
  pub breaks : BreaksRule (filters_of (own_of trees n.filter n.scheduled)) run.journal v

-- a note is of a finding of this filter, at the point of another one
pub record IsNear (place : ℕ) (found : List Finding) (finding : Finding) (n : Note) : Type 0 where
  pub filter : n.filter ≡ place
  pub other : Finding
  pub numbered : slice_get found n.finding ≡ Some other
  pub callback : other.callback ≡ finding.callback
  pub point : other.point ≡ finding.point

-- the run of an earlier note at the same point breaks this too by its last entry, and the finding's rule prevents it
pub record IsAlso (trees : List Tree) (place : ℕ) (found : List Finding) (earlier : List Note) (finding : Finding)
    (v : Violation) : Type 0 where
  pub number : ℕ
  pub note : Note
  pub noted : slice_get earlier number ≡ Some note
  pub near : IsNear place found finding note
  pub broken : IsBrokenBy trees note v
  pub prevented : Contains (violations_of finding.rule) v

-- of a text with one more callback behind it this is a run that breaks what the finding's rule prevents
pub record IsRunWithMore (text : Text) (finding : Finding) (run : BreakingJournal) : Type 0 where
  pub setter : Setter
  pub is : IsSetter text setter
  pub found : IsFound (filters_of setter.trees) (violations_of finding.rule) run

-- what comes of a finding where one more callback sets the contexts that nothing in its text sets
abbrev pub IsAgain : Text → Finding → SetterOutcome → Type 0
IsAgain text finding (Runs run) = IsRunWithMore text finding run
IsAgain text finding RunsNowhere = Unit {0}

-- a note, behind earlier ones of the same text: what comes of the finding of its number. The text is that of the tree of this place, and
-- has these points and findings
pub record IsNoted (is_stack : Bool) (trees : List Tree) (text : Text) (place : ℕ) (graph : Graph) (found : List Finding)
    (earlier : List Note)
    (n : Note) : Type 0 where
  pub filter : n.filter ≡ place
  pub finding : Finding
  pub numbered : slice_get found n.finding ≡ Some finding
  pub callback : n.place ≡ place_at graph finding.callback
  pub scheduled : IsScheduled is_stack trees place graph finding n.scheduled
  pub also : IfSome n.also (IsAlso trees place found earlier finding)
  pub again : IfSome n.again (IsAgain text finding)

-- ---- the notes of texts

-- notes of a text, one behind the other
pub data AreNoted (is_stack : Bool) (trees : List Tree) (text : Text) (place : ℕ) (graph : Graph) (found : List Finding)
    : List Note → Type 0 where
  no_note : AreNoted is_stack trees text place graph found []
  one_more : {ns : List Note} {n : Note} → AreNoted is_stack trees text place graph found ns →
      IsNoted is_stack trees text place graph found ns n → AreNoted is_stack trees text place graph found (ns ++ n ∷ [])

-- the numbers of the findings that are noted
abbrev pub numbers_in : List Note → List ℕ
numbers_in notes = map (λ (n : Note). n.finding) notes

-- what is reported of the finding of a note
abbrev pub reported_in : Note → ReportedFinding
reported_in n = record { number = n.finding; is_behind = n.is_behind }

-- the notes of a text that parses, whose tree is that of this place: one of each finding that is reported by itself, in their order. Their
-- numbers rise, and each finding of the text is akin to one that is noted
pub record AreNotesOf (is_stack : Bool) (trees : List Tree) (text : Text) (place : ℕ) (notes : List Note) : Type 0 where
  pub tree : Tree
  pub own : slice_get trees place ≡ Some tree
  pub graph : Graph
  pub found : List Finding
  pub known : IsKnown text tree graph found
  pub each : AreNoted is_stack trees text place graph found notes
  pub reported : AreReported graph found (map reported_in notes)
  pub firsts : AreFirsts found (numbers_in notes)

-- the notes of texts, so many of which parse: one text's behind the other's, and none of one that doesn't parse
pub data AreNotesIn (is_stack : Bool) (trees : List Tree) : ℕ → List Text → List Note → Type 0 where
  no_text : AreNotesIn is_stack trees 0 [] []
  fails : {place : ℕ} {ts : List Text} {notes : List Note} {t : Text} {e : SyntaxFault} → AreNotesIn is_stack trees place ts notes →
      Fails t e → AreNotesIn is_stack trees place (ts ++ t ∷ []) notes
  parses : {place : ℕ} {ts : List Text} {notes own : List Note} {t : Text} → AreNotesIn is_stack trees place ts notes →
      AreNotesOf is_stack trees t place own → AreNotesIn is_stack trees (place + 1) (ts ++ t ∷ []) (notes ++ own)

-- the same, where the trees are those of the texts that parse: these texts are those of one stack, or each is on its own
pub record AreNotes (is_stack : Bool) (texts : List Text) (notes : List Note) : Type 0 where
  pub trees : List Tree
  pub parsed : AreParsed texts (filters_of trees)
  pub place : ℕ
  pub are : AreNotesIn is_stack trees place texts notes
