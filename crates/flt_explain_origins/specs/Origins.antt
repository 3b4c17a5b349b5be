-- Where a fact comes from: the step that made it, or the entry, and the steps since. This project's own definitions.
use Rattle.std.specs.Prelude.{◌≡◌, ℕ, Bool, true, false, not, ◌==◌, ◌&&◌, IsTrue, is_some}
use Rattle.std.specs.Prelude.{List, [], ◌∷◌, ◌++◌, Option, Some, None, if◌then◌else◌}
use Rattle.std.specs.List.{list_all}
use Rattle.flt_rules.specs.declared.call.LockNumber.{LockNumber}
use Rattle.flt_rules.specs.declared.held.HeldLock.{HeldLock}
use Rattle.flt_rules.specs.declared.place.Mode.{Mode}
use Rattle.flt_rules.specs.declared.place.Mode.TheVariants.{Irp, Fast}
use Rattle.flt_rules.specs.Held.{holds_lock}
use Rattle.flt_rules.specs.Table.{row}
use Rattle.flt_graph.specs.Graph.{place_at, instruction_at}
use Rattle.flt_graph.specs.Instruction.{roles}
use Rattle.flt_graph.specs.Points.{successor}
use Rattle.flt_graph.specs.declared.graph.Graph.{Graph}
use Rattle.flt_graph.specs.declared.instruction.Instruction.{Instruction}
use Rattle.flt_graph.specs.declared.instruction.Instruction.TheVariants as instruction
use Rattle.flt_abs.specs.Entry.{entry}
use Rattle.flt_abs.specs.Outcome.{context_now, operation_now, agrees, can_fail}
use Rattle.flt_abs.specs.Sets.{StatusSet, ModeSet, DrainingSet, status_bits, mode_bits, draining_bits}
use Rattle.flt_abs.specs.State.{Status, Null, Held, Stale, Situation, State, has_mode, has_draining}
use Rattle.flt_abs.specs.Variables.{context_in, operation_in}
use Rattle.flt_explain.specs.declared.finding.Subject.{Subject}
use Rattle.flt_explain.specs.declared.finding.Subject.TheVariants as subject
use Rattle.flt_explain_origins.specs.Ways.{IsWay}
use Rattle.flt_explain_origins.specs.declared.answer.Step.{Step}
use Rattle.flt_explain_origins.specs.declared.answer.Way.{Way}
use Rattle.flt_explain_origins.specs.Facts.{is_so, makes, keeps}
use Rattle.flt_explain_origins.specs.declared.facts.Fact.{Fact}
use Rattle.flt_explain_origins.specs.declared.facts.Fact.TheVariants as fact
use Rattle.flt_explain_origins.specs.declared.facts.VariableStatus.{VariableStatus}
use Rattle.flt_explain_origins.specs.declared.facts.VariableStatus.TheVariants as is
use Rattle.flt_explain_origins.specs.declared.origin.Cause.{Cause}
use Rattle.flt_explain_origins.specs.declared.origin.Cause.TheVariants as cause
use Rattle.flt_explain_origins.specs.declared.origin.Origin.{Origin}

-- ---- the entry

-- whether a status is in a set
abbrev pub has : StatusSet → VariableStatus → Bool
has s is.Null = s.null
has s is.Held = s.held
has s is.Stale = s.stale

-- whether a fact may be so in a state; of locks, where none is held
abbrev pub may_be : State → Fact → Bool
may_be x (fact.Context c s) = has (context_in x c) s
may_be x (fact.Operation d s) = has (operation_in x d) s
may_be x (fact.Mode m) = has_mode x.modes m
may_be x (fact.Draining b) = has_draining x.draining b
may_be x (fact.Lock l b) = agrees (holds_lock l x.locks) b

-- ---- paths

-- whether a step is of a point, whose instruction keeps a fact
abbrev pub is_kept : Graph → ℕ → Fact → ℕ → Step → Bool
is_kept g k f p s = (s.point == p) && keeps (instruction_at g k s.point) s.granted f

-- where steps lead from a point, if each is of the point to which the one before leads, and keeps a fact
abbrev pub leads : Graph → ℕ → Fact → Option ℕ → List Step → Option ℕ
leads g k f p [] = p
leads g k f None (s ∷ steps) = None
leads g k f (Some p) (s ∷ steps) =
    if is_kept g k f p s then leads g k f (successor (instruction_at g k s.point) s.granted) steps else None

-- whether this is a point
abbrev pub is_at : Option ℕ → ℕ → Bool
is_at (Some q) p = q == p
is_at None p = false

-- ---- origins

-- whether a step makes a fact
abbrev pub is_made_by : Graph → ℕ → Fact → Step → Bool
is_made_by g k f s = makes (instruction_at g k s.point) s.granted s.gives f

-- whether a cause makes a fact: a step that makes it, or the entry, where it may be so
abbrev pub is_made : Graph → ℕ → Fact → Cause → Bool
is_made g k f cause.Entry = may_be (entry (place_at g k)) f
is_made g k f (cause.Made s) = is_made_by g k f s

-- the point to which a cause leads
abbrev pub behind : Graph → ℕ → Cause → Option ℕ
behind g k cause.Entry = Some 0
behind g k (cause.Made s) = successor (instruction_at g k s.point) s.granted

-- whether a cause makes a fact, which later steps keep up to a point
abbrev pub is_origin : Graph → ℕ → Fact → ℕ → Cause → List Step → Bool
is_origin g k f p c later = is_made g k f c && is_at (leads g k f (behind g k c) later) p

-- the origin of a fact at a point: its cause makes it, and the later steps are a path of the graph from there to the point, on which each
-- instruction keeps it
pub record IsOrigin (g : Graph) (k : ℕ) (f : Fact) (p : ℕ) (o : Origin) : Type 0 where
  pub about : o.fact ≡ f
  pub made : IsTrue (is_made g k f o.cause)
  pub path : leads g k f (behind g k o.cause) o.later ≡ Some p

-- ---- on a way

-- the last of these steps that makes a fact, or else the cause before them
abbrev pub last_cause : Graph → ℕ → Fact → Cause → List Step → Cause
last_cause g k f before [] = before
last_cause g k f before (s ∷ steps) = last_cause g k f (if is_made_by g k f s then cause.Made s else before) steps

-- the steps since then
abbrev pub since : Graph → ℕ → Fact → List Step → List Step → List Step
since g k f later [] = later
since g k f later (s ∷ steps) = since g k f (if is_made_by g k f s then steps else later) steps

abbrev pub origin : Fact → Cause → List Step → Origin
origin f c later = record { fact = f; cause = c; later = later }

abbrev pub origin_if : Bool → Origin → Option Origin
origin_if true o = Some o
origin_if false o = None

-- the last step of a way that makes a fact, or the entry, with the steps since, if they keep it up to a point
abbrev pub origin_on : Graph → ℕ → Fact → List Step → ℕ → Option Origin
origin_on g k f steps p =
    let c = last_cause g k f cause.Entry steps in
    let later = since g k f steps steps in
    origin_if (is_origin g k f p c later) (origin f c later)

-- whether no step of some makes a fact
abbrev pub are_unmade : Graph → ℕ → Fact → List Step → Bool
are_unmade g k f steps = list_all (λ s. not (is_made_by g k f s)) steps

-- what made a fact last on a way: a step that makes it, behind which none does, with the steps since; or the entry, where no step does
abbrev pub IsLast : Graph → ℕ → Fact → List Step → Cause → List Step → Type 0
IsLast g k f steps cause.Entry later = (later ≡ steps) × (are_unmade g k f steps ≡ true)
IsLast g k f steps (cause.Made s) later =
    (front : List Step) × (steps ≡ front ++ s ∷ later) × (is_made_by g k f s ≡ true) × (are_unmade g k f later ≡ true)

-- nothing that made a fact last on a way is its origin at a point
abbrev pub HasNone : Graph → ℕ → Fact → List Step → ℕ → Type 0
HasNone g k f steps p = (c : Cause) (later : List Step) → IsLast g k f steps c later → is_origin g k f p c later ≡ false

-- whatever is so at the end of a way has an origin on it
abbrev pub HaveOrigins : Type 0
HaveOrigins = (g : Graph) (k : ℕ) (clean : Bool) (w : Way) (f : Fact) → IsWay g k clean w → IsTrue (is_so f w.end.situation) →
    IsTrue (is_some (origin_on g k f w.steps w.end.point))

-- ---- by the graph alone

-- whether an instruction may come out so, whatever is so
abbrev pub is_outcome : Instruction → Bool → Bool
is_outcome (instruction.Act a next) outcome = outcome
is_outcome (instruction.Call c granted refused) true = true
is_outcome (instruction.Call c granted refused) false = can_fail (row (roles c).call).on_fail
is_outcome (instruction.Test t granted refused) outcome = true
is_outcome (instruction.Repeat turns block next) outcome = true
is_outcome (instruction.Return status) outcome = false
is_outcome instruction.End outcome = false

-- whether a step is of a point, whose instruction may come out so
abbrev pub is_step_from : Graph → ℕ → ℕ → Step → Bool
is_step_from g k p s = (s.point == p) && is_outcome (instruction_at g k s.point) s.granted

-- where steps lead along the graph from a point
abbrev pub path_end : Graph → ℕ → Option ℕ → List Step → Option ℕ
path_end g k p [] = p
path_end g k None (s ∷ steps) = None
path_end g k (Some p) (s ∷ steps) =
    if is_step_from g k p s then path_end g k (successor (instruction_at g k s.point) s.granted) steps else None

-- no path of the graph from the callback's entry to a point has an origin of a fact there
abbrev pub HasNoneAt : Graph → ℕ → Fact → ℕ → Type 0
HasNoneAt g k f p = (steps : List Step) → path_end g k (Some 0) steps ≡ Some p → HasNone g k f steps p

-- on some path of the graph from the callback's entry to a point this is what made a fact last
abbrev pub IsOnPath : Graph → ℕ → Fact → ℕ → Origin → Type 0
IsOnPath g k f p o = (steps : List Step) × (path_end g k (Some 0) steps ≡ Some p) × IsLast g k f steps o.cause o.later

-- ---- what a finding is about

-- the status of a variable in a word
abbrev pub word_of : Status → VariableStatus
word_of Null = is.Null
word_of Held = is.Held
word_of Stale = is.Stale

-- the status in a set of one
abbrev pub word_in : StatusSet → VariableStatus
word_in s = if status_bits s == 1 then is.Null else (if status_bits s == 2 then is.Held else is.Stale)

-- that a lock is held, if there is one
abbrev pub held_fact : Option LockNumber → Option Fact
held_fact (Some l) = Some (fact.Lock l true)
held_fact None = None

-- the lock that was taken last
abbrev pub latest_of : List HeldLock → Option LockNumber
latest_of [] = None
latest_of (h ∷ []) = Some h.lock
latest_of (h ∷ k ∷ locks) = latest_of (k ∷ locks)

-- the mode and the answer to the draining test in sets of one
abbrev pub mode_in : ModeSet → Mode
mode_in s = if mode_bits s == 1 then Irp else Fast

abbrev pub draining_in : DrainingSet → Bool
draining_in s = draining_bits s == 2

-- what is so of a subject in a state that means one situation alone
abbrev pub fact_in : Subject → State → Option Fact
fact_in (subject.Context c) x = Some (fact.Context c (word_in (context_in x c)))
fact_in (subject.Operation d) x = Some (fact.Operation d (word_in (operation_in x d)))
fact_in subject.Mode x = Some (fact.Mode (mode_in x.modes))
fact_in subject.Draining x = Some (fact.Draining (draining_in x.draining))
fact_in (subject.Lock l) x = Some (fact.Lock l (holds_lock l x.locks))
fact_in subject.Call x = held_fact (latest_of x.locks)
fact_in subject.Status x = None

-- what is so of a subject in a situation; of a call, that the last lock was taken, which raised its level
abbrev pub fact_about : Subject → Situation → Option Fact
fact_about (subject.Context c) t = Some (fact.Context c (word_of (context_now t c)))
fact_about (subject.Operation d) t = Some (fact.Operation d (word_of (operation_now t d)))
fact_about subject.Mode t = Some (fact.Mode t.mode)
fact_about subject.Draining t = Some (fact.Draining t.draining)
fact_about (subject.Lock l) t = Some (fact.Lock l (holds_lock l t.locks))
fact_about subject.Call t = held_fact (latest_of t.locks)
fact_about subject.Status t = None
