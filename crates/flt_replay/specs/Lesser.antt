-- What the last entry of a journal breaks besides the least violation. This project's own definitions.
use Rattle.std.specs.Prelude.{◌≡◌, List, [], ◌∷◌, ◌++◌, Option, Some, None}
use Rattle.flt_tree.specs.declared.filter.Filter.{Filter}
use Rattle.flt_model.specs.declared.moves.JournalEntry.{JournalEntry}
use Rattle.flt_model.specs.declared.verdict.Violation.{Violation}
use Rattle.flt_model.specs.Effects.{Step}
use Rattle.flt_model.specs.Expansion.{Course, Reaches, Stops, Fails, course, entry_course, expansion}
use Rattle.flt_model.specs.Program.{by_altitude}
use Rattle.flt_model.specs.Runs.{Moment, start, next}
use Rattle.flt_model.specs.Steps.{Transition}
use Rattle.flt_replay.specs.Judging.{first_of, of_rules}

-- the moment that entries lead to from another, if they are a run that breaks nothing
abbrev pub moment_by : Course → (Moment → Option Moment) → Option Moment
moment_by (Reaches m) f = f m
moment_by Stops f = None
moment_by (Fails v) f = None

abbrev pub moment_after : List Filter → Moment → List JournalEntry → Option Moment
moment_after p m [] = Some m
moment_after p m (e ∷ es) = moment_by (entry_course p m (expansion e)) (λ r. moment_after p r es)

-- the last of an entry's transitions is a step that breaks this violation, the least of statuses, levels, locks and places
pub record EndsBy (p : List Filter) (m : Moment) (transitions : Option (List Transition)) (v : Violation) : Type 0 where
  pub before : List Transition
  pub last : Transition
  pub are : transitions ≡ Some (before ++ last ∷ [])
  pub moment : Moment
  pub reached : course p m before ≡ Reaches moment
  pub step : Step
  pub is : next p moment last ≡ Some step
  pub broken : first_of of_rules p moment step ≡ Some v

-- the entries before the last one are a run that breaks nothing, and the last one breaks this
pub record BreaksRule (filters : List Filter) (entries : List JournalEntry) (v : Violation) : Type 0 where
  pub before : List JournalEntry
  pub last : JournalEntry
  pub are : entries ≡ before ++ last ∷ []
  pub moment : Moment
  pub reached : moment_after (by_altitude filters) (start (by_altitude filters)) before ≡ Some moment
  pub broken : EndsBy (by_altitude filters) moment (expansion last) v
