-- Events of one activation.
use Rattle.std.specs.Prelude.{◌≡◌, ◌≤◌, ℕ, List, [], ◌∷◌, length}
use Rattle.flt_model.specs.declared.event.Event.{Event}
use Rattle.flt_model.specs.declared.event.Event.TheVariants.{Gain, Lose}

-- what an event says is gained or lost, this activation gains or loses
abbrev pub IsOf : ℕ → Event → Type 0
IsOf a (Gain b o) = b ≡ a
IsOf a (Lose b o) = b ≡ a
IsOf a _ = Unit {0}

-- each of them is
abbrev pub AreOf : ℕ → List Event → Type 0
AreOf a [] = Unit {0}
AreOf a (e ∷ es) = IsOf a e × AreOf a es

-- the events of one step of the activation: they are its own, and there are not many
pub record AreOwn (a : ℕ) (events : List Event) : Type 0 where
  pub of : AreOf a events
  pub few : length events ≤ 16
