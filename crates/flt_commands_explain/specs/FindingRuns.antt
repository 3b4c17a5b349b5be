-- The runs of findings, for the forms that have them. This project's own program.
use Rattle.std.specs.Prelude.{◌≡◌, ℕ, List, [], ◌∷◌, ◌++◌, None, get_or, length}
use Rattle.flt_syntax.specs.Spelling.{Spells}
use Rattle.flt_syntax.specs.TextFails.{Fails}
use Rattle.flt_syntax.specs.declared.fault.SyntaxFault.{SyntaxFault}
use Rattle.flt_places.specs.declared.files.Files.{Files}
use Rattle.flt_tree.specs.declared.tree.Tree.{Tree}
use Rattle.flt_explain_flows.specs.Flows.{IsFlow}
use Rattle.flt_explain_flows.specs.Running.{run_of}
use Rattle.flt_explain_flows.specs.declared.flows.Flow.{Flow}
use Rattle.flt_explain_texts.specs.declared.sources.Source.{Source}
use Rattle.flt_explain_flows.specs.declared.finding_run.FindingRun.{FindingRun}
use Rattle.flt_model.specs.Program.{by_altitude, filters_of}
use Rattle.flt_explain_outcomes.specs.Noted.{own_of, schedule_of}
use Rattle.flt_explain_outcomes.specs.Noted.{own_files}
use Rattle.flt_explain_outcomes.specs.declared.noted.Note.{Note}
use Rattle.flt_explain_outcomes.specs.declared.schedules.Schedule.{Schedule}
use Rattle.flt_explain_outcomes.specs.declared.schedules.Schedule.TheVariants.{Breaks}
use Rattle.flt_explain_outcomes.specs.declared.schedules.JointOutcome.{JointOutcome}
use Rattle.flt_explain_outcomes.specs.declared.schedules.JointOutcome.TheVariants.{Together, Alone}
use Rattle.flt_search.specs.declared.judging.BreakingJournal.{BreakingJournal}

-- ---- trees

-- the tree of one more text, of this number, and its files, if it parses
pub data IsOneMore (number : ℕ) (s : Source) (trees : List Tree) (files : List Files) (numbers : List ℕ)
    : List Tree → List Files → List ℕ → Type 0 where
  fails : {e : SyntaxFault} → Fails s.text.now e → IsOneMore number s trees files numbers trees files numbers
  parses : (tree : Tree) → Spells s.text.now tree.filter →
      IsOneMore number s trees files numbers (trees ++ tree ∷ []) (files ++ s.files ∷ []) (numbers ++ number ∷ [])

-- the trees of the texts that parse, their files, and the numbers of these texts
pub data AreTrees : List Source → List Tree → List Files → List ℕ → Type 0 where
  no_text : AreTrees [] [] [] []
  one_more : {ss : List Source} {s : Source} {trees more : List Tree} {files further : List Files} {numbers others : List ℕ} →
      AreTrees ss trees files numbers → IsOneMore (length ss) s trees files numbers more further others →
      AreTrees (ss ++ s ∷ []) more further others

-- ---- runs

-- the numbers of the texts of the filters in whose runs something came of a finding
abbrev pub own_numbers : List ℕ → ℕ → JointOutcome → List ℕ
own_numbers numbers place (Together s) = numbers
own_numbers numbers place (Alone s) = get_or numbers place 0 ∷ []

-- the run of a noted finding, with its flow
abbrev pub run_by : List ℕ → Note → BreakingJournal → Flow → FindingRun
run_by numbers n b flow = record {
  source = get_or numbers n.filter 0;
  finding = n.finding;
  sources = own_numbers numbers n.filter n.scheduled;
  violation = b.violation;
  entry = b.entry;
  flow = flow;
}

-- the run of a finding that breaks something is added; none is where its journal is no run of its filters
pub data IsAdded (trees : List Tree) (files : List Files) (numbers : List ℕ) (n : Note) (b : BreakingJournal) (runs : List FindingRun) :
    List FindingRun → Type 0 where
  no_flow : run_of (by_altitude (filters_of (own_of trees n.filter n.scheduled))) b.journal ≡ None →
      IsAdded trees files numbers n b runs runs
  flow : {f : Flow} → IsFlow (own_of trees n.filter n.scheduled) (own_files files n.filter n.scheduled) b.journal f →
      IsAdded trees files numbers n b runs (runs ++ run_by numbers n b f ∷ [])

-- the same by what came of it
abbrev pub IsNextBy : List Tree → List Files → List ℕ → Note → List FindingRun → List FindingRun → Schedule → Type 0
IsNextBy trees files numbers n runs after (Breaks b) = IsAdded trees files numbers n b runs after
IsNextBy trees files numbers n runs after _ = after ≡ runs

abbrev pub IsNext : List Tree → List Files → List ℕ → Note → List FindingRun → List FindingRun → Type 0
IsNext trees files numbers n runs after = IsNextBy trees files numbers n runs after (schedule_of n.scheduled)

-- the runs of all noted findings, in their order
pub data AreRunsOf (trees : List Tree) (files : List Files) (numbers : List ℕ) : List Note → List FindingRun → Type 0 where
  no_note : AreRunsOf trees files numbers [] []
  one_note_more : {ns : List Note} {runs after : List FindingRun} (n : Note) → AreRunsOf trees files numbers ns runs →
      IsNext trees files numbers n runs after → AreRunsOf trees files numbers (ns ++ n ∷ []) after

-- the same of findings of these texts
pub record AreRuns (sources : List Source) (notes : List Note) (runs : List FindingRun) : Type 0 where
  pub trees : List Tree
  pub files : List Files
  pub numbers : List ℕ
  pub parsed : AreTrees sources trees files numbers
  pub each : AreRunsOf trees files numbers notes runs
