-- How many visits of each operation aren't settled.
use Rattle.std.specs.Prelude.{◌≡◌, ℕ, ◌+◌, Bool, not, ◌||◌, ◌==◌, if◌then◌else◌, List, [], ◌∷◌, length, get_or}
use Rattle.flt_model.specs.World.{Visit}

-- one, where a visit is of the operation and isn't settled
abbrev pub counted : ℕ → Visit → Bool → ℕ
counted o visit settled = if settled || not (visit.operation == o) then 0 else 1

-- how many visits of the operation aren't settled
abbrev pub count_unsettled : ℕ → List Visit → List Bool → ℕ
count_unsettled o [] settled = 0
count_unsettled o (visit ∷ visits) [] = 0
count_unsettled o (visit ∷ visits) (b ∷ settled) = counted o visit b + count_unsettled o visits settled

-- visits, whether each is settled, and how many operations are counted
pub record VisitRows : Type 0 where
  pub room : ℕ
  pub visits : List Visit
  pub settled : List Bool

-- the counts are those of the unsettled visits
pub record AreCounted (visits : List Visit) (settled : List Bool) (counts : List ℕ) : Type 0 where
  pub same : length settled ≡ length visits
  pub each : (o : ℕ) → get_or counts o 0 ≡ count_unsettled o visits settled
