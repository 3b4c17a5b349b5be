-- What a certificate of a text must be: it covers the text. This project's own definitions.
use Rattle.std.specs.Prelude.{◌≡◌, ℕ, ◌<◌, true, List, length, [], Option, Some, None, Ok, IsTrue, slice_index_or}
use Rattle.flt_graph.specs.Graph.{place_at, points_at}
use Rattle.flt_graph.specs.declared.graph.Graph.{Graph}
use Rattle.flt_abs.specs.Entry.{entry}
use Rattle.flt_abs.specs.State.{State, is_below}
use Rattle.flt_abs.specs.Step.{transfer}
use Rattle.flt_abs.specs.declared.step.Successor.{Successor}
use Rattle.flt_abs.specs.declared.step.Successors.{Successors}
use Rattle.flt_cert.specs.Format.{Point, Certificate}

-- the state that a certificate has for a point; none where it isn't reached, or isn't there
abbrev pub state_at : Certificate → ℕ → ℕ → Option State
state_at k callback point = slice_index_or (slice_index_or k callback []) point None

-- how many points it has for a callback
abbrev pub count_at : Certificate → ℕ → ℕ
count_at k callback = length (slice_index_or k callback [])

-- a successor that is there leads to a point that is reached with a state above its own
abbrev pub IsLed : Certificate → ℕ → Option Successor → Type 0
IsLed k callback (Some next) = (y : State) × (state_at k callback next.point ≡ Some y) × (is_below next.state y ≡ true)
IsLed k callback None = Unit {0}

-- no rule fires, and each successor is led
abbrev pub Steps : Graph → Certificate → ℕ → ℕ → State → Type 0
Steps g k callback point x =
    (next : Successors) × (transfer g callback point x ≡ Ok next) × IsLed k callback next.first × IsLed k callback next.second

-- the state in which the callback is entered is below that of its point 0
abbrev pub IsEntered : Graph → Certificate → ℕ → Type 0
IsEntered g k callback = (y : State) × (state_at k callback 0 ≡ Some y) × (is_below (entry (place_at g callback)) y ≡ true)

-- A certificate covers a text: it has as many callbacks and points, each callback is entered below its point 0, and at each
-- point that is reached no rule fires and all that follows is covered.
pub record Covers (g : Graph) (k : Certificate) : Type 0 where
  pub callbacks : length k ≡ length g.callbacks
  pub points : (callback : ℕ) → callback < length g.callbacks → points_at g callback ≡ count_at k callback
  pub entries : (callback : ℕ) → callback < length g.callbacks → IsEntered g k callback
  pub steps : (callback point : ℕ) (x : State) → callback < length g.callbacks → point < points_at g callback →
      state_at k callback point ≡ Some x → Steps g k callback point x

-- ---- one callback

-- a successor that is there leads to a point that is reached with a state above its own
abbrev pub IsLedIn : List Point → Option Successor → Type 0
IsLedIn points (Some next) = (y : State) × (slice_index_or points next.point None ≡ Some y) × (is_below next.state y ≡ true)
IsLedIn points None = Unit {0}

abbrev pub StepsIn : Graph → ℕ → ℕ → State → List Point → Type 0
StepsIn g callback point x points =
    (next : Successors) × (transfer g callback point x ≡ Ok next) × IsLedIn points next.first × IsLedIn points next.second

-- the points of a callback are covered
pub record IsCovered (g : Graph) (callback : ℕ) (points : List Point) : Type 0 where
  pub count : points_at g callback ≡ length points
  pub entered : (y : State) × (slice_index_or points 0 None ≡ Some y) × (is_below (entry (place_at g callback)) y ≡ true)
  pub steps : (point : ℕ) (x : State) → point < points_at g callback → slice_index_or points point None ≡ Some x →
      StepsIn g callback point x points

-- ---- certificates one below the other

-- what may be so by the first may be so by the second; a point that isn't reached is below all
abbrev pub IsPointBelow : Point → Point → Type 0
IsPointBelow (Some x) (Some y) = IsTrue (is_below x y)
IsPointBelow (Some x) None = ⊥
IsPointBelow None b = Unit {0}

-- at each point of each callback the first certificate is below the second
abbrev pub IsCertificateBelow : Certificate → Certificate → Type 0
IsCertificateBelow a b = (callback point : ℕ) → IsPointBelow (state_at a callback point) (state_at b callback point)

-- each point is below the one at its place
abbrev pub ArePointsBelow : List Point → List Point → Type 0
ArePointsBelow xs ys = (point : ℕ) → IsPointBelow (slice_index_or xs point None) (slice_index_or ys point None)
