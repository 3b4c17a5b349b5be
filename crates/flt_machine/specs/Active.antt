-- How many activations of a filter go on, as a board counts them. This project's own representation.
use Rattle.std.specs.Prelude.{◌≡◌, ℕ, ◌+◌, ◌==◌, ◌&&◌, List, [], ◌∷◌, get_or, is_some, Option, if◌then◌else◌}
use Rattle.flt_machine_frames.specs.declared.standing.Standing.{Standing}
use Rattle.flt_model.specs.World.{Actor}
use Rattle.flt_machine.specs.Counted.{IsBounded}
use Rattle.flt_machine.specs.Situations.{Situation}

-- what an activation adds to a filter's count: one where it is the filter's and goes on
abbrev pub counted : ℕ → Actor → Option Standing → ℕ
counted f actor s = if (actor.filter == f) && is_some s then 1 else 0

-- how many activations of a filter go on
abbrev pub active_of : ℕ → List Actor → List (Option Standing) → ℕ
active_of f [] standings = 0
active_of f (actor ∷ actors) [] = 0
active_of f (actor ∷ actors) (s ∷ standings) = counted f actor s + active_of f actors standings

-- each filter's count is that of its activations; a filter without a count has none
abbrev pub AreCounted : List ℕ → List Actor → List (Option Standing) → Type 0
AreCounted counts actors standings = (f : ℕ) → get_or counts f 0 ≡ active_of f actors standings

-- what holds of a board at all times: it holds no more than may be, and counts what goes on
pub record IsConsistent (b : Situation) (counts : List ℕ) : Type 0 where
  pub bounded : IsBounded b
  pub counted : AreCounted counts b.actors b.standings
