-- What happened: the world and the events after a step, a move or a transition that may not be enabled.
use Rattle.std.specs.Prelude.{◌≡◌, ℕ, Bool, true, false, List, ◌++◌, Option, Some, None, MatchOption}
use Rattle.flt_tree.specs.declared.filter.Statement.{Statement}
use Rattle.flt_tree.specs.declared.variable.OperationVariable.TheVariants.{Data}
use Rattle.flt_model.specs.declared.event.Event.{Event}
use Rattle.flt_model.specs.declared.event.Object.TheVariants.{Visit}
use Rattle.flt_model.specs.Effects.{Step}
use Rattle.flt_model.specs.Trace.{is_held}
use Rattle.flt_model.specs.Variables.{operation_in}
use Rattle.flt_model.specs.World.{World, activation_at}
use Rattle.flt_replay_records.specs.Rest.{others}

-- the statements after the activation's first one
abbrev pub later : World → ℕ → List Statement
later w a = others (activation_at w a).rest

-- the world after a step, and the events, which come after earlier ones
abbrev pub Happened : World → List Event → List Event → Step → Type 0
Happened w earlier events s = (w ≡ s.world) × (events ≡ earlier ++ s.events)

-- what comes of a transition: its step happened, or it isn't enabled
abbrev pub ComesOf : Option Step → Bool → World → List Event → List Event → Type 0
ComesOf step enabled w earlier events = MatchOption step (enabled ≡ false) (λ s. (enabled ≡ true) × Happened w earlier events s)

-- the visit of a variable is held
abbrev pub holds_visit : List Event → ℕ → Option ℕ → Bool
holds_visit t a None = false
holds_visit t a (Some v) = is_held t a (Visit v)

-- whether an activation holds the visit that it was given
abbrev pub holds_given : List Event → World → ℕ → Bool
holds_given t w a = holds_visit t a (operation_in (activation_at w a) Data)
