-- Which visits are of an operation.
use Rattle.std.specs.Prelude.{◌≡◌, ℕ, ◌+◌, Bool, ◌==◌, if◌then◌else◌, List, [], ◌∷◌, length, get_or}
use Rattle.flt_model.specs.World.{Visit}
use Rattle.flt_ops.specs.Unsettled.{AreCounted}

-- the numbers of the operation's visits in order, where the first visit has this number
abbrev pub numbers_from : ℕ → ℕ → List Visit → List ℕ
numbers_from n o [] = []
numbers_from n o (visit ∷ visits) =
    if visit.operation == o then n ∷ numbers_from (n + 1) o visits else numbers_from (n + 1) o visits

-- the numbers of the operation's visits in order
abbrev pub numbers_of : ℕ → List Visit → List ℕ
numbers_of o visits = numbers_from 0 o visits

-- each operation has its count, and the numbers of its visits
pub record AreRows (visits : List Visit) (settled : List Bool) (counts : List ℕ) (numbers : List (List ℕ)) : Type 0 where
  pub counted : AreCounted visits settled counts
  pub as_many : length numbers ≡ length counts
  pub each : (o : ℕ) → get_or numbers o [] ≡ numbers_of o visits
