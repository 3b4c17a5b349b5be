-- How many steps the entries of a journal give each activation, with which callback it starts, and what that callback costs.
-- This project's own rules.
use Rattle.std.specs.Prelude.{◌≡◌, ℕ, ◌+◌, ◌≤◌, false, ◌==◌, if◌then◌else◌, List, [], ◌∷◌, ◌++◌, length, Some, set}
use Rattle.flt_tree.specs.Measures.{cost}
use Rattle.flt_tree.specs.declared.filter.Filter.{Filter}
use Rattle.flt_model.specs.declared.moves.JournalEntry.{JournalEntry}
use Rattle.flt_model.specs.declared.moves.JournalEntry.TheVariants as entry
use Rattle.flt_model.specs.declared.moves.Move.{Move}
use Rattle.flt_model.specs.Effects.{Step}
use Rattle.flt_model.specs.Expansion.{expand}
use Rattle.flt_model.specs.Moves.{make}
use Rattle.flt_model.specs.Program.{callbacks_at, body_at}
use Rattle.flt_model.specs.Runs.{Moment, run, run_from, start}
use Rattle.flt_model.specs.Steps.{Transition}
use Rattle.flt_model.specs.World.{World, Actor, Activation, activation_at}

-- ---- what is spent

-- what an activation may still spend: what remains of it and its end, and nothing once it has ended
abbrev pub left_in : Activation → ℕ
left_in act = if act.ended then 0 else cost act.rest + 1

-- these are the world's activations but for one, which has spent something
pub record Spends (w : World) (a : ℕ) (acts : List Activation) : Type 0 where
  pub act : Activation
  pub acts_are : acts ≡ set w.activations a act
  pub less : left_in act + 1 ≤ left_in (activation_at w a)

-- ---- journals

-- how many steps of the activation the entries tell of
abbrev pub steps_of : ℕ → List JournalEntry → ℕ
steps_of a [] = 0
steps_of a (entry.Move move ∷ entries) = steps_of a entries
steps_of a (entry.Go b n grant ∷ entries) = (if a == b then n else 0) + steps_of a entries

-- a callback of a filter costs its body and 1 for its end; a body that isn't there is empty
abbrev pub callback_cost : List Filter → ℕ → ℕ → ℕ
callback_cost p filter callback = cost (body_at (callbacks_at p filter) callback) + 1

-- one activation more, which is this one, in the filter's callback: all of its body is to come
pub record HasStarted (p : List Filter) (a filter callback : ℕ) (before later : World) : Type 0 where
  pub actor : Actor
  pub act : Activation
  pub number_is : a ≡ length before.activations
  pub actors_are : later.actors ≡ before.actors ++ actor ∷ []
  pub activations_are : later.activations ≡ before.activations ++ act ∷ []
  pub filter_is : actor.filter ≡ filter
  pub body_is : act.rest ≡ body_at (callbacks_at p filter) callback
  pub goes_on : act.ended ≡ false

-- an entry of a journal is the move by which the activation starts in the filter's callback, where the journal begins at this moment
pub record IsStartedFrom (p : List Filter) (first : Moment) (entries : List JournalEntry) (a filter callback : ℕ) : Type 0 where
  pub earlier : List JournalEntry
  pub move : Move
  pub others : List JournalEntry
  pub entries_are : entries ≡ earlier ++ entry.Move move ∷ others
  pub transitions : List Transition
  pub moment : Moment
  pub step : Step
  pub expanded : expand earlier ≡ Some transitions
  pub runs : run_from p first transitions ≡ Some moment
  pub made : make p moment.world move ≡ Some step
  pub starts : HasStarted p a filter callback moment.world step.world

-- the same of a journal from the start
abbrev pub IsStarted : List Filter → List JournalEntry → ℕ → ℕ → ℕ → Type 0
IsStarted p entries a filter callback = IsStartedFrom p (start p) entries a filter callback

-- the journal is a run on these filters, which leads to a moment
pub record IsRunTo (p : List Filter) (entries : List JournalEntry) (moment : Moment) : Type 0 where
  pub transitions : List Transition
  pub expanded : expand entries ≡ Some transitions
  pub runs : run p transitions ≡ Some moment
