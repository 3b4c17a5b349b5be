-- Where transitions lead, whatever they break. This project's own definitions.
use Rattle.std.specs.Prelude.{◌≡◌, ◌≤◌, ◌<◌, ◌+◌, ℕ, Bool, true, if◌then◌else◌, List}
use Rattle.std.specs.Prelude.{Option, Some, None, is_some, option_map}
use Rattle.flt_tree.specs.declared.filter.Filter.{Filter}
use Rattle.flt_model.specs.declared.event.Event.{Event}
use Rattle.flt_model.specs.Effects.{Step}
use Rattle.flt_model.specs.Steps.{Transition, step}
use Rattle.flt_model.specs.World.{World}
use Rattle.flt_replay_steps.specs.Unseen.{unseen}

-- something was made that leads to this world, or it isn't enabled
abbrev pub LeadsTo : Option World → Bool → World → Type 0
LeadsTo found made w = found ≡ (if made then Some w else None)

-- the world after a step that may not be enabled
abbrev pub world_of : Option Step → Option World
world_of = option_map (λ s. s.world)

-- the world after a transition, where these events happened before
abbrev pub after_step : List Filter → World → List Event → Transition → Option World
after_step p w t x = world_of (step p w t x)

-- so many local steps of an activation were made, of this many that were asked for; where they are fewer, the next one isn't enabled
pub record GoesLocally (steps : ℕ) (w : World) (a made : ℕ) (u : World) : Type 0 where
  pub within : made ≤ steps
  pub enabled : is_some (unseen made w a) ≡ true
  pub all : made ≡ steps → unseen steps w a ≡ Some u
  pub stops : made < steps → unseen (made + 1) w a ≡ None
