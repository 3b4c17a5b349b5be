-- What is kept for points that aren't given, while a callback is gone through, and what is wrong where a point leads. This project's
-- own definitions.
use Rattle.std.specs.Prelude.{◌≡◌, ◌≢◌, ℕ, ◌<◌, ◌≤◌, ◌&&◌, ◌==◌, Bool, false, nat_lt, if◌then◌else◌, List}
use Rattle.std.specs.Prelude.{length, take, get_or, set, Option, Some, None, Result, Ok, Err, is_some}
use Rattle.flt_rules.specs.declared.rule.Rule.{Rule}
use Rattle.flt_rules.specs.declared.rule.Rule.TheVariants.{R14}
use Rattle.flt_graph.specs.Graph.{place_at}
use Rattle.flt_graph.specs.declared.graph.Graph.{Graph}
use Rattle.flt_abs.specs.Step.{transfer}
use Rattle.flt_abs.specs.declared.step.Successor.{Successor}
use Rattle.flt_abs.specs.declared.step.Successors.{Successors}
use Rattle.flt_cert.specs.Format.{Point}
use Rattle.flt_check.specs.Checker.{lead_fault, lesser, entry_by}
use Rattle.flt_graph.specs.Kept.{is_kept}
use Rattle.flt_cert.specs.Thin.{Slot}
use Rattle.flt_check.specs.Full.{followed, full_points}

-- nothing is kept for a point that is given; for another, what follows from the points before a number
abbrev pub waiting : Graph → ℕ → List Slot → ℕ → ℕ → Slot → Point
waiting g callback slots point later (Some given) = None
waiting g callback slots point later None = followed g callback later 0 (take point (full_points g callback slots))

-- so for each point from the number on
pub record IsReady (g : Graph) (callback : ℕ) (slots : List Slot) (point : ℕ) (states : List Point) : Type 0 where
  pub wide : length slots ≤ length states
  pub each : (later : ℕ) → point ≤ later → later < length slots →
      get_or states later None ≡ waiting g callback slots point later (get_or slots later None)

-- a later point that isn't given has the state with which it is reached
abbrev pub waits : List Slot → ℕ → ℕ → Slot → Bool
waits slots from to (Some given) = false
waits slots from to None = nat_lt from to && nat_lt to (length slots)

abbrev pub put : List Slot → ℕ → Option Successor → List Point → List Point
put slots from (Some next) states =
    if waits slots from next.point (get_or slots next.point None) then set states next.point (Some next.state) else states
put slots from None states = states

abbrev pub put_both : List Slot → ℕ → Successors → List Point → List Point
put_both slots from next states = put slots from next.second (put slots from next.first states)

-- what is wrong where a point leads to a slot: only a later one may be empty
abbrev pub slot_fault : List Slot → ℕ → Successor → Slot → Option Rule
slot_fault slots from next (Some given) = lead_fault next.state given
slot_fault slots from next None = if nat_lt from next.point && nat_lt next.point (length slots) then None else Some R14

abbrev pub side_fault : List Slot → ℕ → Option Successor → Option Rule
side_fault slots from (Some next) = slot_fault slots from next (get_or slots next.point None)
side_fault slots from None = None

-- what is wrong with a successor by the points of its callback
abbrev pub column_fault : List Point → Option Successor → Option Rule
column_fault points (Some next) = lead_fault next.state (get_or points next.point None)
column_fault points None = None

-- ---- a point, by the slots

-- the least rule that a point breaks, or that is broken where it leads
abbrev pub slots_result : List Slot → ℕ → Result Successors Rule → Option Rule
slots_result slots from (Err r) = Some r
slots_result slots from (Ok next) = lesser (side_fault slots from next.first) (side_fault slots from next.second)

abbrev pub put_result : List Slot → ℕ → Result Successors Rule → List Point → List Point
put_result slots from (Err r) states = states
put_result slots from (Ok next) states = put_both slots from next states

-- a point that isn't reached breaks none, and leads nowhere
abbrev pub slots_fault : Graph → ℕ → List Slot → ℕ → Point → Option Rule
slots_fault g callback slots point (Some x) = slots_result slots point (transfer g callback point x)
slots_fault g callback slots point None = None

abbrev pub put_from : Graph → ℕ → List Slot → ℕ → Point → List Point → List Point
put_from g callback slots point (Some x) states = put_result slots point (transfer g callback point x) states
put_from g callback slots point None states = states

-- what is given of a point, or what waits for it
abbrev pub own_state : Slot → Point → Point
own_state (Some x) there = x
own_state None there = there

-- ---- a point, by the points of its callback

abbrev pub column_result : List Point → Result Successors Rule → Option Rule
column_result points (Err r) = Some r
column_result points (Ok next) = lesser (column_fault points next.first) (column_fault points next.second)

abbrev pub column_own : Graph → ℕ → List Point → ℕ → Point → Option Rule
column_own g callback points point (Some x) = column_result points (transfer g callback point x)
column_own g callback points point None = None

abbrev pub column_point : Graph → ℕ → List Point → ℕ → Option Rule
column_point g callback points point =
    let own = column_own g callback points point (get_or points point None) in
    if point == 0 then lesser own (entry_by (place_at g callback) (get_or points 0 None)) else own

-- each point is given exactly where it is kept
abbrev pub AreGiven : Graph → ℕ → List Slot → Type 0
AreGiven g callback slots = (p : ℕ) → p < length slots → is_some (get_or slots p None) ≡ is_kept g callback p

-- up to a point, that one left out, no rule is broken
abbrev pub FaultlessBefore : Graph → ℕ → List Slot → ℕ → Type 0
FaultlessBefore g callback slots point = (p : ℕ) → p < point → column_point g callback (full_points g callback slots) p ≡ None

-- the first point at which a rule is broken, and the least rule there
pub record IsFirstBroken (g : Graph) (callback : ℕ) (slots : List Slot) (point : ℕ) (rule : Rule) : Type 0 where
  pub within : point < length slots
  pub broken : column_point g callback (full_points g callback slots) point ≡ Some rule
  pub earlier : FaultlessBefore g callback slots point

-- the first point of a callback that is given and not kept, or kept and not given
pub record IsOtherPoint (g : Graph) (callback : ℕ) (slots : List Slot) (point : ℕ) : Type 0 where
  pub within : point < length slots
  pub other : is_some (get_or slots point None) ≢ is_kept g callback point
  pub earlier : (p : ℕ) → p < point → is_some (get_or slots p None) ≡ is_kept g callback p
