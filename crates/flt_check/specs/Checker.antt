-- What is wrong with a certificate of a text that it doesn't cover, and where first. This project's own definitions.
use Rattle.std.specs.Prelude.{◌≡◌, ℕ, ◌-◌, ◌<◌, ◌≤◌, ◌⊎◌, Bool, true, false, not, ◌||◌, ◌==◌, if◌then◌else◌}
use Rattle.std.specs.Prelude.{nat_lt, nat_le, length, Option, Some, None, Result, Ok, Err}
use Rattle.flt_rules.specs.Held.{same_locks}
use Rattle.flt_rules.specs.Rule.{number}
use Rattle.flt_rules.specs.declared.place.Place.{Place}
use Rattle.flt_rules.specs.declared.rule.Rule.{Rule}
use Rattle.flt_rules.specs.declared.rule.Rule.TheVariants.{R12, R14}
use Rattle.flt_graph.specs.Graph.{place_at, points_at, line_at}
use Rattle.flt_graph.specs.declared.graph.Graph.{Graph}
use Rattle.flt_abs.specs.Entry.{entry}
use Rattle.flt_abs.specs.State.{State, is_below}
use Rattle.flt_abs.specs.Step.{transfer}
use Rattle.flt_abs.specs.declared.step.Successor.{Successor}
use Rattle.flt_abs.specs.declared.step.Successors.{Successors}
use Rattle.flt_cert.specs.Format.{Certificate}
use Rattle.flt_check.specs.Covering.{state_at, count_at}
use Rattle.flt_rules.specs.declared.refusal.Refusal.{Refusal}

-- ---- the least rule that is broken at a point

-- a state that leads to a point: it must be reached, with the same locks, and with a state that isn't below
abbrev pub lead_fault : State → Option State → Option Rule
lead_fault x None = Some R14
lead_fault x (Some y) = if not (same_locks x.locks y.locks) then Some R12 else (if not (is_below x y) then Some R14 else None)

abbrev pub successor_fault : Certificate → ℕ → Option Successor → Option Rule
successor_fault k callback (Some next) = lead_fault next.state (state_at k callback next.point)
successor_fault k callback None = None

-- the one of the lesser number
abbrev pub lesser : Option Rule → Option Rule → Option Rule
lesser (Some x) (Some y) = if nat_lt (number y) (number x) then Some y else Some x
lesser (Some x) None = Some x
lesser None b = b

abbrev pub leads_fault : Certificate → ℕ → Successors → Option Rule
leads_fault k callback next = lesser (successor_fault k callback next.first) (successor_fault k callback next.second)

-- where a rule fires the successors aren't looked at
abbrev pub result_fault : Certificate → ℕ → Result Successors Rule → Option Rule
result_fault k callback (Err r) = Some r
result_fault k callback (Ok next) = leads_fault k callback next

abbrev pub state_fault : Graph → Certificate → ℕ → ℕ → State → Option Rule
state_fault g k callback point x = result_fault k callback (transfer g callback point x)

-- a point that isn't reached breaks no rule of its own
abbrev pub own_fault : Graph → Certificate → ℕ → ℕ → Option State → Option Rule
own_fault g k callback point (Some x) = state_fault g k callback point x
own_fault g k callback point None = None

-- the state of point 0 must be above the entry's
abbrev pub entry_by : Place → Option State → Option Rule
entry_by place (Some x) = if is_below (entry place) x then None else Some R14
entry_by place None = Some R14

abbrev pub entry_fault : Graph → Certificate → ℕ → Option Rule
entry_fault g k callback = entry_by (place_at g callback) (state_at k callback 0)

abbrev pub point_fault : Graph → Certificate → ℕ → ℕ → Option Rule
point_fault g k callback point =
    let own = own_fault g k callback point (state_at k callback point) in
    if point == 0 then lesser own (entry_fault g k callback) else own

-- ---- faults of a certificate

-- the certificate lacks the callback, or has not as many points for it
abbrev pub differs : Graph → Certificate → ℕ → Bool
differs g k callback = nat_le (length k) callback || not (points_at g callback == count_at k callback)

-- the certificate has as many callbacks and points as the text
pub record AgreeOnCounts (g : Graph) (k : Certificate) : Type 0 where
  pub callbacks : length k ≤ length g.callbacks
  pub points : (callback : ℕ) → callback < length g.callbacks → differs g k callback ≡ false

-- the first callback that differs
pub record IsFirstToDiffer (g : Graph) (k : Certificate) (callback : ℕ) : Type 0 where
  pub within : callback < length g.callbacks
  pub here : differs g k callback ≡ true
  pub earlier : (c : ℕ) → c < callback → differs g k c ≡ false

-- none differs, but the certificate has more: reported of the text's last one
pub record HasMore (g : Graph) (k : Certificate) (callback : ℕ) : Type 0 where
  pub last : callback ≡ length g.callbacks - 1
  pub more : length g.callbacks < length k
  pub none : (c : ℕ) → c < length g.callbacks → differs g k c ≡ false

abbrev pub IsCountFault : Graph → Certificate → ℕ → Type 0
IsCountFault g k callback = IsFirstToDiffer g k callback ⊎ HasMore g k callback

-- up to a point of a callback, that point left out, no rule is broken
abbrev pub NoneBefore : Graph → Certificate → ℕ → ℕ → Type 0
NoneBefore g k callback point = (p : ℕ) → p < point → point_fault g k callback p ≡ None

-- up to a callback, that one left out, no rule is broken
abbrev pub NoneIn : Graph → Certificate → ℕ → Type 0
NoneIn g k callbacks = (c : ℕ) → c < callbacks → NoneBefore g k c (points_at g c)

-- the first point of a callback at which a rule is broken, and the least rule there
pub record IsFirstPoint (g : Graph) (k : Certificate) (callback point : ℕ) (rule : Rule) : Type 0 where
  pub within : point < points_at g callback
  pub broken : point_fault g k callback point ≡ Some rule
  pub earlier : NoneBefore g k callback point

-- no fault: the counts agree, and no rule is broken at any point
pub record IsFaultless (g : Graph) (k : Certificate) : Type 0 where
  pub counts : AgreeOnCounts g k
  pub points : NoneIn g k (length g.callbacks)

-- a fault of the counts
pub record IsCountRefusal (g : Graph) (k : Certificate) (f : Refusal) : Type 0 where
  pub callback : IsCountFault g k f.callback
  pub point : f.point ≡ 0
  pub line : f.line ≡ line_at g f.callback 0
  pub rule : f.rule ≡ R14

-- a point of the text at which a rule is broken, and no earlier one
pub record IsPointRefusal (g : Graph) (k : Certificate) (f : Refusal) : Type 0 where
  pub counts : AgreeOnCounts g k
  pub callback : f.callback < length g.callbacks
  pub point : IsFirstPoint g k f.callback f.point f.rule
  pub line : f.line ≡ line_at g f.callback f.point
  pub earlier : NoneIn g k f.callback

-- the first fault: the counts come before the points
abbrev pub IsLeastFault : Graph → Certificate → Refusal → Type 0
IsLeastFault g k f = IsCountRefusal g k f ⊎ IsPointRefusal g k f
