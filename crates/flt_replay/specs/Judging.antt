-- What the monitor's parts say of a moment and of a step, each of its share of the violations.
use Rattle.std.specs.Prelude.{◌≡◌, ℕ, Bool, true, not, ◌==◌, List, [], ◌∷◌, Option, Some, None, if◌then◌else◌, find, set}
use Rattle.std.specs.List.{list_all}
use Rattle.flt_rules.specs.declared.held.HeldLock.{HeldLock}
use Rattle.flt_tree.specs.declared.filter.Filter.{Filter}
use Rattle.flt_model.specs.declared.event.Event.{Event}
use Rattle.flt_model.specs.declared.event.Event.TheVariants.{Call, Status, Lock, Unlock, End}
use Rattle.flt_model.specs.declared.verdict.Violation.{Violation}
use Rattle.flt_model.specs.declared.verdict.Violation.TheVariants.{V1, V2, V3, V4, V5, V6, V7, V8}
use Rattle.flt_model.specs.Effects.{Step}
use Rattle.flt_model.specs.Runs.{Moment, next, keeps}
use Rattle.flt_model.specs.Steps.{Transition}
use Rattle.flt_model.specs.Violations.{legal_statuses, levels_kept, is_disciplined, legal_places}
use Rattle.flt_model.specs.World.{World, activation_at}
pub use Rattle.flt_replay_world.specs.Filters.{filters_of}

-- ---- the violations of who holds what, and those of rules

-- the first four
abbrev pub of_holding : List Violation
of_holding = V1 ∷ V2 ∷ V3 ∷ V4 ∷ []

-- the last four
abbrev pub of_rules : List Violation
of_rules = V5 ∷ V6 ∷ V7 ∷ V8 ∷ []

-- the least of some violations that a step breaks
abbrev pub first_of : List Violation → List Filter → Moment → Step → Option Violation
first_of among p m s = find (λ v. not (keeps p m s v)) among

-- the step of a transition at a moment, which led to this world with these events
pub record Follows (p : List Filter) (m : Moment) (x : Transition) (s : Step) (w : World) (events : List Event) : Type 0 where
  pub is : next p m x ≡ Some s
  pub world : s.world ≡ w
  pub events_are : s.events ≡ events

-- the same step, and the least violation of rules that it breaks
pub record IsJudgedBy (p : List Filter) (m : Moment) (x : Transition) (w : World) (events : List Event)
    (rule : Option Violation) : Type 0 where
  pub step : Step
  pub follows : Follows p m x step w events
  pub least : rule ≡ first_of of_rules p m step

-- ---- rules, read in the world after a step: it has all that they read as it was before, but the locks

-- the world where an activation has these locks
abbrev pub with_locks : World → ℕ → List HeldLock → World
with_locks w a locks = record w { activations = set w.activations a (record (activation_at w a) { locks = locks }) }

-- whether some events keep a rule, in a world before them. What V7 asks of the world after them needs no look: no step leads to
-- a world where a lock is held exclusively beside another activation
abbrev pub keeps_rule : List Filter → World → List Event → List Event → Violation → Bool
keeps_rule p w t events V5 = legal_statuses p w t events
keeps_rule p w t events V6 = levels_kept p w t events
keeps_rule p w t events V7 = list_all (is_disciplined p w t) events
keeps_rule p w t events V8 = legal_places p w t events
keeps_rule p w t events _ = true

-- the least violation of the rules that aren't kept
abbrev pub least_of : Bool → Bool → Bool → Bool → Option Violation
least_of statuses levels locks places =
    if statuses then (if levels then (if locks then (if places then None else Some V8) else Some V7) else Some V6) else Some V5

-- an event of which a rule speaks is the activation's
abbrev pub is_by : ℕ → Event → Bool
is_by a (Call b k) = b == a
is_by a (Status b answer) = b == a
is_by a (Lock b l) = b == a
is_by a (Unlock b l) = b == a
is_by a (End b) = b == a
is_by a _ = true
