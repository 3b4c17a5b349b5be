-- What a move of the machine comes to, found out by reading alone.
use Rattle.std.specs.Prelude.{◌≡◌, ◌<◌, ℕ, Bool, true, false, List, [], ◌∷◌, ◌++◌, length, Option, Some, None}
use Rattle.flt_tree.specs.declared.filter.Filter.{Filter}
use Rattle.flt_model.specs.declared.event.Event.{Event}
use Rattle.flt_model.specs.declared.event.Event.TheVariants as event
use Rattle.flt_model.specs.declared.moves.Move.{Move}
use Rattle.flt_model.specs.declared.moves.Move.TheVariants.{Arrive, Cancel, Detach, Detached}
use Rattle.flt_model.specs.Effects.{Step, gains_context}
use Rattle.flt_model.specs.Moves.{gains_visit, has_active}
use Rattle.flt_model.specs.Program.{body_at, callbacks_at, filter_of}
use Rattle.flt_model.specs.Variables.{starting}
use Rattle.flt_model.specs.World.{World, Store, Actor, Activation}
use Rattle.flt_machine_frames.specs.Loading.{AreLoaded}
use Rattle.flt_machine_frames.specs.declared.loaded.Loaded.{Loaded}
use Rattle.flt_machine_store.specs.Changes.{after_change}
use Rattle.flt_machine_store.specs.Stores.{world_of}
use Rattle.flt_machine_dispatch.specs.declared.decision.Decision.{Decision}
use Rattle.flt_machine_dispatch.specs.declared.decision.Start.{Start}
use Rattle.flt_rules.specs.Limits.{max_operations}

-- ---- an activation that starts

-- what it is
abbrev pub actors_by : Option Start → List Actor
actors_by None = []
actors_by (Some start) = record { filter = start.filter; place = start.place; draining = start.draining } ∷ []

-- how far it has come: to the beginning of its callback's body, which is empty where the callback isn't there
abbrev pub activations_by : List Filter → Option Start → List Activation
activations_by p None = []
activations_by p (Some start) = starting (body_at (callbacks_at p start.filter) start.callback) start.given start.arg ∷ []

-- it gains what it is given; its number is this
abbrev pub gains_by : ℕ → Option Start → List Event
gains_by a None = []
gains_by a (Some start) = gains_visit a start.given ++ gains_context a start.arg

-- a context that may be freed
abbrev pub frees_by : Option ℕ → List Event
frees_by None = []
frees_by (Some x) = event.Free x ∷ []

-- ---- a decision

-- the events of a move, in a world
abbrev pub events_by : World → Decision → List Event
events_by w d = gains_by (length w.activations) d.start ++ frees_by d.freed

-- the world after it
abbrev pub world_by : List Filter → World → Decision → World
world_by p w d = record {
  actors = w.actors ++ actors_by d.start;
  activations = w.activations ++ activations_by p d.start;
  store = after_change w.store d.change;
}

-- the decision is the step
pub record IsDecided (p : List Filter) (w : World) (d : Decision) (step : Step) : Type 0 where
  pub events : step.events ≡ events_by w d
  pub world : step.world ≡ world_by p w d

-- there is a decision exactly where the move is enabled, and it is the move's step
abbrev pub Decides : List Filter → World → Option Decision → Option Step → Type 0
Decides p w None None = Unit {0}
Decides p w (Some d) (Some step) = IsDecided p w d step
Decides p w _ _ = ⊥

-- the decision for a move, in any world with this store, of any filters that are loaded so
abbrev pub DecidesIn : Loaded → Store → Option Decision → (List Filter → World → Option Step) → Type 0
DecidesIn l s decision step =
    (p : List Filter) (actors : List Actor) (activations : List Activation) → AreLoaded p l → length s.presences ≡ length p →
    Decides p (world_of s actors activations) decision (step p (world_of s actors activations))

-- the same of a move that asks nothing of the filters
abbrev pub DecidesAnywhere : Store → Option Decision → (World → Option Step) → Type 0
DecidesAnywhere s decision step =
    (p : List Filter) (actors : List Actor) (activations : List Activation) →
    Decides p (world_of s actors activations) decision (step (world_of s actors activations))

-- where the move ends a teardown: whether an activation of the filter goes on
abbrev pub IsActive : List Filter → Move → Bool → List Actor → List Activation → Type 0
IsActive p (Detached altitude) active actors activations = active ≡ has_active (filter_of p altitude) actors activations
IsActive p _ active actors activations = Unit {0}

-- where one operation more arrives: there is room for it. This project's own limit
abbrev pub HasRoom : Store → Move → Type 0
HasRoom s (Arrive kind mode file) = length s.arrivals < max_operations
HasRoom s _ = Unit {0}

-- any number of entries come to wait by the move: an operation is cancelled, or a teardown begins
abbrev pub is_cancelling : Move → Bool
is_cancelling (Cancel serial) = true
is_cancelling (Detach altitude) = true
is_cancelling _ = false
