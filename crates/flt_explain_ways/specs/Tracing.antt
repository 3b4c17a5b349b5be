-- What shows findings, and how they are put together by what made them so. This project's own program.
use Rattle.std.specs.Prelude.{◌≡◌, ℕ, ◌+◌, Bool, true, false, if◌then◌else◌, List, [], ◌∷◌, Option, Some, None, option_map, slice_get}
use Rattle.std.specs.List.{AllZip}
use Rattle.flt_rules.specs.declared.rule.Rule.{Rule}
use Rattle.flt_rules.specs.declared.rule.Rule.TheVariants.{R01, R02, R03, R04, R05, R07, R10, R11, R13}
use Rattle.flt_graph.specs.declared.graph.Graph.{Graph}
use Rattle.flt_abs.specs.State.{Situation}
use Rattle.flt_explain.specs.declared.finding.Finding.{Finding}
use Rattle.flt_explain.specs.declared.finding.Subject.{Subject}
use Rattle.flt_explain.specs.declared.finding.Subject.TheVariants as about
use Rattle.flt_explain_origins.specs.Grouping.{groups_of}
use Rattle.flt_explain_origins.specs.Origins.{fact_about, origin_on, IsOrigin, IsOnPath, HasNoneAt}
use Rattle.flt_explain_origins.specs.declared.facts.Fact.{Fact}
use Rattle.flt_explain_origins.specs.declared.facts.Fact.TheVariants as fact
use Rattle.flt_explain_origins.specs.declared.facts.VariableStatus.{VariableStatus}
use Rattle.flt_explain_origins.specs.declared.facts.VariableStatus.TheVariants as is
use Rattle.flt_explain_origins.specs.declared.grouping.TracedFinding.{TracedFinding}
use Rattle.flt_explain_origins.specs.declared.origin.Cause.{Cause}
use Rattle.flt_explain_origins.specs.declared.origin.Origin.{Origin}
use Rattle.flt_explain_ways.specs.Told.{IsAnswer}
use Rattle.flt_explain_origins.specs.declared.answer.Answer.{Answer}
use Rattle.flt_explain_origins.specs.declared.answer.Answer.TheVariants as answer
use Rattle.flt_explain_origins.specs.declared.answer.Way.{Way}
use Rattle.flt_explain_origins.specs.declared.answer.Ways.{Ways}
use Rattle.flt_explain_origins.specs.Trace.{cause_of}
use Rattle.flt_explain_origins.specs.declared.trace.FindingTrace.{FindingTrace}
use Rattle.flt_explain_ways.specs.declared.tracing.Traces.{Traces}

-- ---- what breaks a rule

-- what of a situation breaks a rule: what the finding is about. A call that isn't legal at its place is wrong whatever is so; one at too
-- high an interrupt level (R07) is so by the lock that was taken last
abbrev pub offence_by : Rule → Subject → Situation → Option Fact
offence_by R07 u t = fact_about u t
offence_by r about.Call t = None
offence_by r u t = fact_about u t

abbrev pub offence : Finding → Situation → Option Fact
offence f t = offence_by f.rule f.subject t

-- that a variable has a status
abbrev pub status_fact : Subject → VariableStatus → Option Fact
status_fact (about.Context v) s = Some (fact.Context v s)
status_fact (about.Operation v) s = Some (fact.Operation v s)
status_fact u s = None

-- that a lock is held
abbrev pub lock_fact : Subject → Option Fact
lock_fact (about.Lock l) = Some (fact.Lock l true)
lock_fact u = None

-- what may break a rule, whatever the situation: a variable is released or handed over, or is held still, or a lock is held
abbrev pub offence_of : Rule → Subject → Option Fact
offence_of R01 u = status_fact u is.Stale
offence_of R04 u = status_fact u is.Stale
offence_of R13 u = status_fact u is.Stale
offence_of R02 u = status_fact u is.Held
offence_of R03 u = status_fact u is.Held
offence_of R05 u = status_fact u is.Held
offence_of R10 u = lock_fact u
offence_of R11 u = lock_fact u
offence_of r u = None

-- or else a variable is NULL
abbrev pub other_offence_of : Rule → Subject → Option Fact
other_offence_of R01 u = status_fact u is.Null
other_offence_of R04 u = status_fact u is.Null
other_offence_of R13 u = status_fact u is.Null
other_offence_of r u = None

-- ---- where what is found comes from

-- where a fact comes from that is so at the end of a path
abbrev pub origin_at_end : Graph → ℕ → Way → Option Fact → Option Origin
origin_at_end g k w None = None
origin_at_end g k w (Some f) = origin_on g k f w.steps w.end.point

abbrev pub is_held_lock : Option Fact → Bool
is_held_lock (Some (fact.Lock l true)) = true
is_held_lock _ = false

-- of two paths that meet with other locks the one on which the lock is held
abbrev pub telling_way : Finding → Way → Option Way → Way
telling_way f w None = w
telling_way f w (Some v) = if is_held_lock (offence f w.end.situation) then w else v

-- where what breaks the rule at the end of a path comes from
abbrev pub origin_on_way : Graph → Finding → Way → Option Origin
origin_on_way g f w = origin_at_end g f.callback w (offence f w.end.situation)

abbrev pub origin_on_ways : Graph → Finding → Ways → Option Origin
origin_on_ways g f ws = origin_on_way g f (telling_way f ws.way ws.other)

-- an origin of a fact at the finding's point on some path of the graph, or none where no path has one
abbrev pub IsByGraph : Graph → Finding → Option Fact → Option Origin → Type 0
IsByGraph g e None o = o ≡ None
IsByGraph g e (Some f) None = HasNoneAt g e.callback f e.point
IsByGraph g e (Some f) (Some o) = IsOrigin g e.callback f e.point o × IsOnPath g e.callback f e.point o

-- the first origin, or else one of the other fact
abbrev pub IsOrElse : Graph → Finding → Option Fact → Option Origin → Option Origin → Type 0
IsOrElse g e other (Some first) o = o ≡ Some first
IsOrElse g e other None o = IsByGraph g e other o

-- an origin of a fact by the graph alone; or, where it has none, of another one
abbrev pub IsOfEither : Graph → Finding → Option Fact → Option Fact → Option Origin → Type 0
IsOfEither g e f other o = (first : Option Origin) × IsByGraph g e f first × IsOrElse g e other first o

-- without a path, where what may break the rule comes from
abbrev pub IsWithoutWay : Graph → Finding → Option Origin → Type 0
IsWithoutWay g e o = IsOfEither g e (offence_of e.rule e.subject) (other_offence_of e.rule e.subject) o

-- where what is found comes from: on the path that shows it, or by the graph alone where none does
abbrev pub IsOriginBy : Graph → Finding → Answer → Option Origin → Type 0
IsOriginBy g e (answer.Clean ws) o = o ≡ origin_on_ways g e ws
IsOriginBy g e (answer.Behind ws) o = o ≡ origin_on_ways g e ws
IsOriginBy g e answer.Unreached o = IsWithoutWay g e o
IsOriginBy g e answer.Unknown o = IsWithoutWay g e o

-- what shows a finding: paths to it, or that there are none, and where what is found comes from
pub record IsShown (g : Graph) (e : Finding) (s : FindingTrace) : Type 0 where
  pub answer : IsAnswer g e s.answer
  pub origin : IsOriginBy g e s.answer s.origin

-- ---- what is put together

-- a finding with its number and what made it so
abbrev pub traced : ℕ → Finding → List FindingTrace → TracedFinding
traced n f shown = record { number = n; finding = f; cause = cause_of (slice_get shown n) }

-- the same of each of some, whose numbers go on from one
abbrev pub traced_from : ℕ → List Finding → List FindingTrace → List TracedFinding
traced_from n [] shown = []
traced_from n (f ∷ fs) shown = traced n f shown ∷ traced_from (n + 1) fs shown

-- what shows each of some findings, in their order, which are put together by what made them so
pub record AreTraces (g : Graph) (found : List Finding) (t : Traces) : Type 0 where
  pub each : AllZip (IsShown g) found t.shown
  pub groups : t.groups ≡ groups_of (traced_from 0 found t.shown)

-- ---- paths

-- paths break another rule before
abbrev pub is_answer_behind : Answer → Bool
is_answer_behind (answer.Behind found) = true
is_answer_behind _ = false

-- whether each path to a finding that was found breaks another rule before
abbrev pub is_behind : Option FindingTrace → Bool
is_behind None = false
is_behind (Some s) = is_answer_behind s.answer
