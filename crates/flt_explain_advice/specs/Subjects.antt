-- What findings are about, and what is so of that, in words. This project's own program.
use Rattle.std.specs.Prelude.{ℕ, true, false, if◌then◌else◌, ◌==◌, Option, Some, None, codes, slice_get}
use Rattle.flt_rules.specs.Held.{holds_lock}
use Rattle.flt_rules.specs.declared.place.Mode.TheVariants.{Irp, Fast}
use Rattle.flt_tree.specs.Names.{Text}
use Rattle.flt_tree.specs.Variable.{context_place, operation_place}
use Rattle.flt_tree.specs.declared.filter.Filter.{Filter}
use Rattle.flt_abs.specs.Sets.{StatusSet, status_bits, mode_bits, draining_bits}
use Rattle.flt_abs.specs.State.{State}
use Rattle.flt_explain.specs.declared.finding.Subject.{Subject}
use Rattle.flt_explain.specs.declared.finding.Subject.TheVariants as about
use Rattle.flt_explain_origins.specs.declared.facts.Fact.{Fact}
use Rattle.flt_explain_origins.specs.declared.facts.Fact.TheVariants as fact
use Rattle.flt_explain_origins.specs.declared.facts.VariableStatus.{VariableStatus}
use Rattle.flt_explain_origins.specs.declared.facts.VariableStatus.TheVariants as is
use Rattle.flt_explain_origins.specs.Alone.{alone}
use Rattle.flt_explain_origins.specs.declared.answer.Way.{Way}
use Rattle.flt_explain_texts.specs.Operands.{word_of}
use Rattle.flt_explain_texts.specs.Page.{quoted}
use Rattle.flt_shown.specs.Shown.{shown}

-- ---- subjects

-- what a finding is about that no word of a text names
abbrev pub phrase : Subject → Option Text
phrase about.Mode = Some (codes "the mode of the operation")
phrase about.Draining = Some (codes "FLTFL_POST_OPERATION_DRAINING")
phrase about.Call = Some (codes "this call")
phrase about.Status = Some (codes "this status")
phrase _ = None

abbrev pub subject_by : Option Text → Text → Text
subject_by None word = quoted word
subject_by (Some phrase) word = shown phrase

-- what a finding is about: a word of the text between marks, or a phrase
abbrev pub subject_told : Filter → Subject → Text
subject_told f u = subject_by (phrase u) (word_of f u)

-- ---- what is so

-- a set of one status; nothing of another one
abbrev pub word_of_status : ℕ → Option Text
word_of_status bits =
    if bits == 1 then Some (codes "NULL")
    else (if bits == 2 then Some (codes "held") else (if bits == 4 then Some (codes "stale") else None))

abbrev pub status_word : Option StatusSet → Option Text
status_word None = None
status_word (Some s) = word_of_status (status_bits s)

-- what a subject is in a state in which just one status of each variable is possible; nothing where that isn't said
abbrev pub state_word : State → Subject → Option Text
state_word x (about.Context v) = status_word (slice_get x.contexts (context_place v))
state_word x (about.Operation v) = status_word (slice_get x.operations (operation_place v))
state_word x (about.Lock l) = Some (if holds_lock l x.locks then codes "taken" else codes "not taken")
state_word x about.Mode =
    if mode_bits x.modes == 1 then Some (codes "IRP") else (if mode_bits x.modes == 2 then Some (codes "fast I/O") else None)
state_word x about.Draining =
    if draining_bits x.draining == 1 then Some (codes "not set") else (if draining_bits x.draining == 2 then Some (codes "set") else None)
state_word x about.Call = None
state_word x about.Status = None

-- the same at the end of a path, if there is one
abbrev pub state_at_end : Subject → Option Way → Option Text
state_at_end u None = None
state_at_end u (Some w) = state_word (alone w.end.situation) u

-- what a variable is
abbrev pub variable_word : VariableStatus → Text
variable_word is.Null = codes "NULL"
variable_word is.Held = codes "held"
variable_word is.Stale = codes "stale"

-- what a fact says
abbrev pub fact_word : Fact → Text
fact_word (fact.Context c s) = variable_word s
fact_word (fact.Operation d s) = variable_word s
fact_word (fact.Mode Irp) = codes "IRP"
fact_word (fact.Mode Fast) = codes "fast I/O"
fact_word (fact.Draining true) = codes "set"
fact_word (fact.Draining false) = codes "not set"
fact_word (fact.Lock l true) = codes "taken"
fact_word (fact.Lock l false) = codes "not taken"
