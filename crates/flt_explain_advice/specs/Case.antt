-- What is known of a finding, by which its words are chosen. This project's own program.
use Rattle.std.specs.Prelude.{ℕ, ◌==◌, if◌then◌else◌, Option, Some, None, option_and_then, option_copied, option_map, slice_get}
use Rattle.flt_rules.specs.Call.{place_of}
use Rattle.flt_rules.specs.declared.call.LockKind.{LockKind}
use Rattle.flt_rules.specs.declared.call.LockNumber.{LockNumber}
use Rattle.flt_rules.specs.declared.place.Operation.{Operation}
use Rattle.flt_rules.specs.declared.place.Place.{Place}
use Rattle.flt_rules.specs.declared.place.Place.TheVariants.{Pre, Post}
use Rattle.flt_places.specs.Files.{file_at}
use Rattle.flt_places.specs.declared.files.Files.{Files}
use Rattle.flt_tree.specs.Declarations as declared
use Rattle.flt_tree.specs.Names.{Text}
use Rattle.flt_tree.specs.Variable.{context_place, operation_place}
use Rattle.flt_tree.specs.declared.filter.Filter.{Filter}
use Rattle.flt_tree.specs.declared.filter.Status.{Status}
use Rattle.flt_abs.specs.Sets.{StatusSet, status_bits}
use Rattle.flt_abs.specs.State.{State}
use Rattle.flt_graph.specs.Graph.{instruction_at, line_at, place_at}
use Rattle.flt_graph.specs.Instruction.{roles}
use Rattle.flt_graph.specs.declared.graph.Graph.{Graph}
use Rattle.flt_graph.specs.declared.instruction.Instruction.{Instruction}
use Rattle.flt_graph.specs.declared.instruction.Instruction.TheVariants.{Call, Return}
use Rattle.flt_graph.specs.declared.instruction.Invocation.{Invocation}
use Rattle.flt_explain.specs.declared.finding.Finding.{Finding}
use Rattle.flt_explain.specs.declared.finding.Subject.{Subject}
use Rattle.flt_explain.specs.declared.finding.Subject.TheVariants as about
use Rattle.flt_explain_origins.specs.declared.facts.VariableStatus.{VariableStatus}
use Rattle.flt_explain_origins.specs.declared.facts.VariableStatus.TheVariants.{Null, Held, Stale}
use Rattle.flt_explain_origins.specs.declared.origin.Cause.{Cause}
use Rattle.flt_explain_origins.specs.declared.origin.Cause.TheVariants.{Entry, Made}
use Rattle.flt_explain_origins.specs.Alone.{alone}
use Rattle.flt_explain_origins.specs.declared.answer.Step.{Step}
use Rattle.flt_explain_origins.specs.declared.answer.Way.{Way}
use Rattle.flt_explain_texts.specs.Page.{line_told}
use Rattle.flt_explain_texts.specs.Scene.{head_of}
use Rattle.flt_explain_advice.specs.Subjects.{subject_told}
use Rattle.flt_explain_origins.specs.Trace.{cause_of, way_of}
use Rattle.flt_explain_advice.specs.declared.case.Case.{Case}
use Rattle.flt_explain_origins.specs.declared.trace.FindingTrace.{FindingTrace}

-- a finding of a text whose lines are in files, and what shows it
pub record Circumstances : Type 0 where
  pub files : Files
  pub text : Text
  pub filter : Filter
  pub graph : Graph
  pub finding : Finding
  pub shown : Option FindingTrace

-- those of a case of the program
abbrev pub of_case : Case → Circumstances
of_case c = record {
  files = c.scene.files;
  text = c.scene.lines.now;
  filter = c.scene.tree.now.filter;
  graph = c.scene.graph.now;
  finding = c.finding;
  shown = option_copied c.shown;
}

-- ---- in the text and in the graph

-- the head of the callback
abbrev pub head : Circumstances → Text
head x = head_of x.text x.filter x.finding.callback

-- what the finding is about
abbrev pub subject : Circumstances → Text
subject x = subject_told x.filter x.finding.subject

-- where the callback runs
unfoldable pub place : Circumstances → Place
place x = place_at x.graph x.finding.callback

-- the operation of a `pre` or a `post` callback
abbrev pub operation_at : Place → Option Operation
operation_at (Pre o) = Some o
operation_at (Post o) = Some o
operation_at _ = None

-- what is done where the finding is
unfoldable pub instruction : Circumstances → Instruction
instruction x = instruction_at x.graph x.finding.callback x.finding.point

-- the call of an instruction
abbrev pub call_in : Instruction → Option Invocation
call_in (Call c granted failed) = Some (roles c)
call_in _ = None

-- the status that an instruction returns, or that its call is given
abbrev pub status_in : Instruction → Option Status
status_in (Call c granted failed) = (roles c).status
status_in (Return st) = st
status_in _ = None

-- the kind of a lock
unfoldable pub lock_kind : Circumstances → LockNumber → Option LockKind
lock_kind x l = slice_get x.graph.locks (place_of l)

-- the name of a lock
unfoldable pub lock_name : Circumstances → LockNumber → Text
lock_name x l = declared.lock_name x.filter.locks l

-- ---- on the path that shows it

-- that path
unfoldable pub path : Circumstances → Option Way
path x = option_and_then (λ (s : FindingTrace). way_of s.answer) x.shown

-- what is so where it ends
unfoldable pub state : Circumstances → Option State
state x = option_map (λ (w : Way). alone w.end.situation) (path x)

-- the only status in a set
abbrev pub only_status : ℕ → Option VariableStatus
only_status bits = if bits == 1 then Some Null else (if bits == 2 then Some Held else (if bits == 4 then Some Stale else None))

abbrev pub only_in : Option StatusSet → Option VariableStatus
only_in None = None
only_in (Some s) = only_status (status_bits s)

-- what a variable is in a state
abbrev pub status_there : State → Subject → Option VariableStatus
status_there s (about.Context v) = only_in (slice_get s.contexts (context_place v))
status_there s (about.Operation v) = only_in (slice_get s.operations (operation_place v))
status_there s _ = None

-- what the variable that the finding is about is there
unfoldable pub variable_status : Circumstances → Option VariableStatus
variable_status x = option_and_then (λ s. status_there s x.finding.subject) (state x)

-- the step that made a fact
abbrev pub step_of : Cause → Option Step
step_of Entry = None
step_of (Made s) = Some s

-- the step that made it so
unfoldable pub cause : Circumstances → Option Step
cause x = option_and_then step_of (cause_of x.shown)

-- what is done at a step of the callback
unfoldable pub done_at : Circumstances → Step → Instruction
done_at x s = instruction_at x.graph x.finding.callback s.point

-- the call at a step of the callback
abbrev pub call_at : Circumstances → Step → Option Invocation
call_at x s = call_in (done_at x s)

-- the line of a step of the callback
unfoldable pub line_of : Circumstances → Step → ℕ
line_of x s = line_at x.graph x.finding.callback s.point

-- a line of the text, by its number in its file: the file is named where it isn't that of the finding
unfoldable pub line_named : Circumstances → ℕ → Text
line_named x line = line_told x.files (file_at x.files x.finding.line) line
