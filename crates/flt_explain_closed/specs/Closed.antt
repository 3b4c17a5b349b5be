-- Sets of states that no step of a callback leads out of. This project's own definitions.
use Rattle.std.specs.Prelude.{◌≡◌, ℕ, Bool, true, false, ◌==◌, ◌&&◌, List, [], ◌∷◌, Option, Some, None, slice_get}
use Rattle.std.specs.List.{list_all}
use Rattle.flt_rules.specs.declared.place.Place.{Place}
use Rattle.flt_graph.specs.Graph.{place_at, instruction_at}
use Rattle.flt_graph.specs.Points.{successor}
use Rattle.flt_graph.specs.declared.graph.Graph.{Graph}
use Rattle.flt_abs.specs.Entry.{entry}
use Rattle.flt_abs.specs.Outcome.{may_come_out, leaves}
use Rattle.flt_abs.specs.State.{Situation, State, Means, state_of, is_below}
use Rattle.flt_abs.specs.Step.{leads_to}
use Rattle.flt_abs.specs.declared.step.Successor.{Successor}
use Rattle.flt_abs.specs.declared.step.Successors.{Successors}
use Rattle.flt_explain_closed.specs.declared.member.Member.{Member}

-- ---- what is followed

-- a situation as it is followed: with its locks, or without
abbrev pub seen : Bool → Situation → Situation
seen true t = t
seen false t = record t { locks = [] }

-- a state so
abbrev pub seen_state : Bool → State → State
seen_state true x = x
seen_state false x = state_of x.contexts x.operations x.modes x.draining []

-- ---- what is in a set

-- a member is at the point, and its state means the situation, as it is followed
pub record IsIn (locks : Bool) (ms : List Member) (p : ℕ) (t : Situation) : Type 0 where
  pub number : ℕ
  pub member : Member
  pub there : slice_get ms number ≡ Some member
  pub point : member.point ≡ p
  pub means : Means member.state (seen locks t)

-- the situations at the entry are in the set, and from each situation that is in it each outcome of its point leads to one that is
pub record IsClosed (g : Graph) (k : ℕ) (locks : Bool) (ms : List Member) : Type 0 where
  pub entered : (t : Situation) → Means (entry (place_at g k)) t → IsIn locks ms 0 t
  pub kept : (p q : ℕ) (t : Situation) (outcome gives : Bool) → IsIn locks ms p t →
      may_come_out (instruction_at g k p) t outcome ≡ true → successor (instruction_at g k p) outcome ≡ Some q →
      IsIn locks ms q (leaves (instruction_at g k p) outcome gives t)

-- ---- the same, by computing

-- a member, if there is one, is at a point, and above a state
abbrev pub is_above : Option Member → ℕ → State → Bool
is_above (Some m) p x = (m.point == p) && is_below x m.state
is_above None p x = false

abbrev pub has : List Member → ℕ → ℕ → State → Bool
has ms n p x = is_above (slice_get ms n) p x

-- the member of a number is above what follows, if something does
abbrev pub has_next : List Member → Bool → ℕ → Option Successor → Bool
has_next ms locks n (Some s) = has ms n s.point (seen_state locks s.state)
has_next ms locks n None = true

abbrev pub have_next : List Member → Bool → Member → Successors → Bool
have_next ms locks m next = has_next ms locks m.granted next.first && has_next ms locks m.refused next.second

abbrev pub is_kept : Graph → ℕ → Bool → List Member → Member → Bool
is_kept g k locks ms m = have_next ms locks m (leads_to m.state (instruction_at g k m.point))

abbrev pub is_entered : Place → List Member → Bool
is_entered place [] = false
is_entered place (m ∷ ms) = (m.point == 0) && is_below (entry place) m.state

abbrev pub is_closed : Graph → ℕ → Bool → List Member → Bool
is_closed g k locks ms = is_entered (place_at g k) ms && list_all (is_kept g k locks ms) ms
