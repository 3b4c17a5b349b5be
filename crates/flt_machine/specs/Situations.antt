-- What a board holds, and the moment of the machine at which it stands.
use Rattle.std.specs.Prelude.{◌≡◌, ◌≤◌, ℕ, ◌==◌, ◌&&◌, ◌||◌, Bool, true, false, List, [], ◌∷◌, length, get_or, is_some, Option, Some, None}
use Rattle.flt_tree.specs.declared.filter.Callback.{Callback}
use Rattle.flt_tree.specs.declared.filter.Filter.{Filter}
use Rattle.flt_machine_calls.specs.Plans.{IsCounted}
use Rattle.flt_machine_frames.specs.Loading.{AreLoaded}
use Rattle.flt_machine_frames.specs.Standings.{StandsFor}
use Rattle.flt_machine_frames.specs.declared.frame.Frame.{Frame}
use Rattle.flt_machine_frames.specs.declared.loaded.Loaded.{Loaded}
use Rattle.flt_machine_frames.specs.declared.standing.Standing.{Standing}
use Rattle.flt_model.specs.declared.event.Event.{Event}
use Rattle.flt_model.specs.declared.event.Object.TheVariants.{Visit}
use Rattle.flt_model.specs.declared.moves.JournalEntry.{JournalEntry}
use Rattle.flt_model.specs.Expansion.{expand}
use Rattle.flt_model.specs.Program.{callbacks_at}
use Rattle.flt_model.specs.Runs.{Moment, run}
use Rattle.flt_model.specs.Steps.{Transition}
use Rattle.flt_model.specs.Trace.{gains, loses}
use Rattle.flt_model.specs.World.{Store, Actor, Activation, activation_at, actor_at, no_actor}
use Rattle.flt_machine_store.specs.Stores.{empty_store}

-- all that a board holds: activations by number, each with what it is and how far it has come, unless it has ended; what
-- activations share; and what happened
pub record Situation : Type 0 where
  pub actors : List Actor
  pub standings : List (Option Standing)
  pub store : Store
  pub entries : List JournalEntry

-- what the activation of a number is
abbrev pub actor_of : Situation → ℕ → Actor
actor_of b a = get_or b.actors a no_actor

-- how far it has come, unless it has ended or isn't there
abbrev pub standing_of : Situation → ℕ → Option Standing
standing_of b a = get_or b.standings a None

-- an activation as it is taken from the board
abbrev pub frame_of : Situation → ℕ → Standing → Frame
frame_of b a s = record { activation = a; filter = (actor_of b a).filter; draining = (actor_of b a).draining; standing = s }

-- whether an activation of the filter goes on
abbrev pub has_standing : ℕ → List Actor → List (Option Standing) → Bool
has_standing f [] standings = false
has_standing f (actor ∷ actors) [] = false
has_standing f (actor ∷ actors) (s ∷ standings) = ((actor.filter == f) && is_some s) || has_standing f actors standings

-- before the first move there are only so many filters
abbrev pub opening : ℕ → Situation
opening filters = record { actors = []; standings = []; store = empty_store filters; entries = [] }

-- ---- at a moment

-- what is kept of an activation that goes on: it stands for it, and counts how often the activation gained and lost the visit that it
-- was given
pub record IsKept (cs : List Callback) (t : List Event) (a : ℕ) (act : Activation) (s : Standing) : Type 0 where
  pub stands : StandsFor cs s act
  pub counted : IsCounted t a s

-- nothing is kept of an activation that has ended
abbrev pub KeptFor : List Callback → List Event → ℕ → Activation → Option Standing → Type 0
KeptFor cs t a act None = act.ended ≡ true
KeptFor cs t a act (Some s) = IsKept cs t a act s

-- a board on these filters stands at a moment
pub record IsAt (p : List Filter) (b : Situation) (m : Moment) : Type 0 where
  pub actors : b.actors ≡ m.world.actors
  pub count : length b.standings ≡ length m.world.activations
  pub both : length m.world.actors ≡ length m.world.activations
  pub filters : length m.world.store.presences ≡ length p
  pub kept : (a : ℕ) → KeptFor (callbacks_at p (actor_at m.world a).filter) m.trace a (activation_at m.world a) (standing_of b a)
  pub store : b.store ≡ m.world.store
  -- nothing was gained or lost by an activation that isn't there yet
  pub young : (a v : ℕ) → length m.world.activations ≤ a → (gains m.trace a (Visit v) ≡ 0) × (loses m.trace a (Visit v) ≡ 0)

-- the board is one of these filters: its journal is a run, and it stands at that run's end
pub record IsBoard (p : List Filter) (b : Situation) : Type 0 where
  pub transitions : List Transition
  pub moment : Moment
  pub expanded : expand b.entries ≡ Some transitions
  pub runs : run p transitions ≡ Some moment
  pub at : IsAt p b moment

-- what is loaded is the board's own
pub record IsOwn (l : Loaded) (b : Situation) : Type 0 where
  pub filters : List Filter
  pub loaded : AreLoaded filters l
  pub board : IsBoard filters b

-- whichever filters are loaded: P holds at each moment at which the board stands
abbrev pub Now : Loaded → Situation → (List Filter → Moment → Type 0) → Type 0
Now l b P = (p : List Filter) → AreLoaded p l → (m : Moment) → IsAt p b m → P p m
