-- What the indices of visits say of them.
use Rattle.std.specs.Prelude.{◌≡◌, ◌<◌, ℕ, suc, ◌+◌, Bool, true, false, not, ◌&&◌, ◌||◌, ◌==◌, if◌then◌else◌}
use Rattle.std.specs.Prelude.{nat_lt, List, [], ◌∷◌, Option, Some, None, length, get_or}
use Rattle.flt_model.specs.World.{Visit, no_visit}
use Rattle.flt_replay_records.specs.Counts.{count}

-- whether the number is that of a visit of the operation
abbrev pub is_visit_of : ℕ → List Visit → ℕ → Bool
is_visit_of o visits v = nat_lt v (length visits) && ((get_or visits v no_visit).operation == o)

-- how many visits of the operation aren't settled
abbrev pub unsettled_of : ℕ → List Visit → List Bool → ℕ
unsettled_of o [] settled = 0
unsettled_of o (visit ∷ visits) [] = 0
unsettled_of o (visit ∷ visits) (b ∷ settled) = (if b || not (visit.operation == o) then 0 else 1) + unsettled_of o visits settled

-- the last visit of the operation below a number, if there is one
abbrev pub IsLatest : List Visit → ℕ → ℕ → Option ℕ → Type 0
IsLatest visits o bound None = (u : ℕ) → u < bound → is_visit_of o visits u ≡ false
IsLatest visits o bound (Some v) =
    (v < bound) × ((is_visit_of o visits v ≡ true) × ((u : ℕ) → v < u → u < bound → is_visit_of o visits u ≡ false))

-- where the visits up to a last one end
abbrev pub end_of : Option ℕ → ℕ
end_of None = 0
end_of (Some v) = suc v

-- the unsettled visits of each operation are counted; each operation has its last visit, and each visit its operation's before it
pub record AreVisits (visits : List Visit) (settled : List Bool) (before last : List (Option ℕ)) (unsettled : List ℕ) : Type 0 where
  pub same : length settled ≡ length visits
  pub paired : length before ≡ length visits
  pub left : (o : ℕ) → count unsettled o ≡ unsettled_of o visits settled
  pub latest : (o : ℕ) → IsLatest visits o (length visits) (get_or last o None)
  pub earlier : (v : ℕ) → v < length visits → IsLatest visits (get_or visits v no_visit).operation v (get_or before v None)
