-- Ways through a callback, and what they show. This project's own definitions.
use Rattle.std.specs.Prelude.{◌≡◌, ℕ, Bool, false, not, ◌==◌, ◌&&◌, ◌||◌, IsTrue, is_none, List, [], ◌∷◌, Option, Some, None, if◌then◌else◌}
use Rattle.std.specs.List.{list_any}
use Rattle.flt_rules.specs.Held.{holds_lock, same_locks}
use Rattle.flt_rules.specs.Rule.{number}
use Rattle.flt_rules.specs.declared.held.HeldLock.{HeldLock}
use Rattle.flt_graph.specs.Graph.{place_at, instruction_at}
use Rattle.flt_graph.specs.Points.{successor}
use Rattle.flt_graph.specs.declared.graph.Graph.{Graph}
use Rattle.flt_graph.specs.declared.instruction.Instruction.{Instruction}
use Rattle.flt_abs.specs.Breaks.{first_broken}
use Rattle.flt_abs.specs.Entry.{entry}
use Rattle.flt_abs.specs.Outcome.{may_come_out, leaves}
use Rattle.flt_abs.specs.Setting.{setting_of}
use Rattle.flt_abs.specs.State.{Situation, Means}
use Rattle.flt_explain.specs.Faults.{faults_at}
use Rattle.flt_explain.specs.Subjects.{place}
use Rattle.flt_explain.specs.declared.finding.Fault.{Fault}
use Rattle.flt_explain.specs.declared.finding.Finding.{Finding}
use Rattle.flt_explain.specs.declared.finding.Subject.{Subject}
use Rattle.flt_explain.specs.declared.finding.Subject.TheVariants as subject
use Rattle.flt_explain_origins.specs.Alone.{alone}
use Rattle.flt_explain_origins.specs.declared.answer.Step.{Step}
use Rattle.flt_explain_origins.specs.declared.answer.Way.{Way}
use Rattle.flt_explain_origins.specs.declared.situation.Moment.{Moment}

abbrev pub moment : ℕ → Situation → Moment
moment p t = record { point = p; situation = t }

-- ---- one step

-- no rule is broken at a point in a situation
abbrev pub breaks_nothing : Graph → ℕ → ℕ → Situation → Bool
breaks_nothing g k p t = is_none (first_broken (setting_of g k (alone t)) (alone t) (instruction_at g k p))

-- the point that follows by an outcome
abbrev pub or_zero : Option ℕ → ℕ
or_zero (Some p) = p
or_zero None = 0

abbrev pub next_point : Instruction → Bool → ℕ
next_point i outcome = or_zero (successor i outcome)

-- where the outcome of a step leads
abbrev pub moment_after : Graph → ℕ → ℕ → Situation → Step → Moment
moment_after g k p t s =
    moment (next_point (instruction_at g k p) s.granted) (leaves (instruction_at g k p) s.granted s.gives t)

-- a step is of this point, which may come out so in the situation; on a clean way no rule is broken there
abbrev pub is_taken : Graph → ℕ → Bool → ℕ → Situation → Step → Bool
is_taken g k clean p t s =
    (s.point == p) && ((not clean || breaks_nothing g k p t) && may_come_out (instruction_at g k p) t s.granted)

-- ---- ways

-- where steps lead from a point in a situation, if each may be taken where the one before leads
abbrev pub end_of : Graph → ℕ → Bool → ℕ → Situation → List Step → Option Moment
end_of g k clean p t [] = Some (moment p t)
end_of g k clean p t (s ∷ steps) =
    if is_taken g k clean p t s
    then end_of g k clean (moment_after g k p t s).point (moment_after g k p t s).situation steps
    else None

-- a way begins at point 0, in a situation in which the callback may be entered, and its steps lead to its end
pub record IsWay (g : Graph) (k : ℕ) (clean : Bool) (w : Way) : Type 0 where
  pub starts : Means (entry (place_at g k)) w.start
  pub leads : end_of g k clean 0 w.start w.steps ≡ Some w.end

-- ---- findings

-- a fault is by the finding's rule, about what the finding is about
abbrev pub is_fault_of : Finding → Fault → Bool
is_fault_of f h = (number h.rule == number f.rule) && (place h.subject == place f.subject)

abbrev pub is_among : List Fault → Finding → Bool
is_among hs f = list_any (λ (h : Fault). is_fault_of f h) hs

-- what is found is so at the finding's point in a situation
abbrev pub is_found_in : Graph → Finding → Situation → Bool
is_found_in g f t = is_among (faults_at g f.callback f.point (alone t)) f

-- a way shows a finding: it ends at the finding's point, and what is found is so there
pub record Shows (g : Graph) (f : Finding) (clean : Bool) (w : Way) : Type 0 where
  pub way : IsWay g f.callback clean w
  pub there : w.end.point ≡ f.point
  pub found : IsTrue (is_found_in g f w.end.situation)

-- ---- ways that meet

-- the point of the last step
abbrev pub is_last : List Step → ℕ → Bool
is_last [] p = false
is_last (s ∷ []) p = s.point == p
is_last (s ∷ r ∷ steps) p = is_last (r ∷ steps) p

-- whether this is a lock that is held
abbrev pub is_held_lock : Subject → List HeldLock → Bool
is_held_lock (subject.Lock l) locks = holds_lock l locks
is_held_lock _ locks = false

-- other locks are held, or in another way or order; the one that the finding is about is in one list at least
abbrev pub are_lists_apart : Subject → List HeldLock → List HeldLock → Bool
are_lists_apart u hs ks = not (same_locks hs ks) && (is_held_lock u hs || is_held_lock u ks)

abbrev pub are_apart : Subject → Situation → Situation → Bool
are_apart u a b = are_lists_apart u a.locks b.locks

-- two ways meet at one point with other locks, and the first comes from the finding's point
pub record Meet (g : Graph) (f : Finding) (clean : Bool) (w v : Way) : Type 0 where
  pub way : IsWay g f.callback clean w
  pub other : IsWay g f.callback clean v
  pub from : IsTrue (is_last w.steps f.point)
  pub there : w.end.point ≡ v.end.point
  pub apart : IsTrue (are_apart f.subject w.end.situation v.end.situation)
