-- Runs of the machine: lists of transitions, each enabled where it comes; their traces; and the first that breaks something.
use Rattle.std.specs.Prelude.{ℕ, ◌+◌, Bool, not, List, [], ◌∷◌, ◌++◌, Option, Some, None, find, option_and_then}
use Rattle.flt_tree.specs.declared.filter.Filter.{Filter}
use Rattle.flt_model.specs.declared.event.Event.{Event}
use Rattle.flt_model.specs.declared.verdict.Violation.{Violation}
use Rattle.flt_model.specs.declared.verdict.Violation.TheVariants.{V1, V2, V3, V4, V5, V6, V7, V8}
use Rattle.flt_model.specs.Effects.{Step}
use Rattle.flt_model.specs.Steps.{Transition, step}
use Rattle.flt_model.specs.Violations.{no_stale_use, no_leak, settled_once, one_owner, legal_statuses}
use Rattle.flt_model.specs.Violations.{levels_kept, lock_discipline, legal_places}
use Rattle.flt_model.specs.World.{World, opening}

-- how far a run has come: the world, and all events so far in their order
pub record Moment : Type 0 where
  pub world : World
  pub trace : List Event

-- the moment before all transitions
abbrev pub start : List Filter → Moment
start p = record { world = opening p; trace = [] }

-- the moment after a step
abbrev pub after : Moment → Step → Moment
after m s = record { world = s.world; trace = m.trace ++ s.events }

-- the step of a transition at a moment, or nothing where it isn't enabled
abbrev pub next : List Filter → Moment → Transition → Option Step
next p m x = step p m.world m.trace x

-- where transitions lead from a moment on
abbrev pub run_from : List Filter → Moment → List Transition → Option Moment
run_from p m [] = Some m
run_from p m (x ∷ xs) = option_and_then (λ s. run_from p (after m s) xs) (next p m x)

-- where a list of transitions leads, if it is a run
abbrev pub run : List Filter → List Transition → Option Moment
run p xs = run_from p (start p) xs

-- ---- breaks

-- whether a step at a moment keeps what a violation would break
abbrev pub keeps : List Filter → Moment → Step → Violation → Bool
keeps p m s V1 = no_stale_use s.world m.trace s.events
keeps p m s V2 = no_leak m.trace s.events
keeps p m s V3 = settled_once m.trace s.events
keeps p m s V4 = one_owner s.world (m.trace ++ s.events)
keeps p m s V5 = legal_statuses p m.world m.trace s.events
keeps p m s V6 = levels_kept p m.world m.trace s.events
keeps p m s V7 = lock_discipline p m.world m.trace s.world s.events
keeps p m s V8 = legal_places p m.world m.trace s.events

-- in the order of their numbers
abbrev pub violations : List Violation
violations = V1 ∷ V2 ∷ V3 ∷ V4 ∷ V5 ∷ V6 ∷ V7 ∷ V8 ∷ []

-- the least number that a step breaks
abbrev pub broken : List Filter → Moment → Step → Option Violation
broken p m s = find (λ v. not (keeps p m s v)) violations

-- a violation, and after how many transitions it stands
pub record Break : Type 0 where
  pub moment : ℕ
  pub violation : Violation

-- what follows a step, unless it is missing
abbrev pub on_step : Option Step → (Step → Option Break) → Option Break
on_step None f = None
on_step (Some s) f = f s

-- the violation that is there, or what follows
abbrev pub first_or : Option Violation → ℕ → Option Break → Option Break
first_or (Some v) k rest = Some (record { moment = k; violation = v })
first_or None k rest = rest

-- the first break from a moment on, where k transitions stand before it
abbrev pub breaks_from : List Filter → Moment → ℕ → List Transition → Option Break
breaks_from p m k [] = None
breaks_from p m k (x ∷ xs) =
    on_step (next p m x) (λ s. first_or (broken p m s) (k + 1) (breaks_from p (after m s) (k + 1) xs))

-- the first break of a run: the least moment, with the least number there
abbrev pub breaks : List Filter → List Transition → Option Break
breaks p xs = breaks_from p (start p) 0 xs
