-- What repeats in a timeline. This project's own definitions.
use Rattle.std.specs.Prelude.{◌≡◌, ◌≤◌, ◌+◌, ◌-◌, ◌*◌, ◌/◌, ◌<◌, ℕ, zero, suc, Bool, List, [], ◌∷◌, length}
use Rattle.std.specs.Prelude.{take, drop, nat_lt, slice_get, if◌then◌else◌, Option, Some, None}
use Rattle.std.specs.Str.{bytes_eq}
use Rattle.flt_explain_timeline.specs.declared.folds.Fold.{Fold}
use Rattle.flt_explain_timeline.specs.declared.rows.Row.{Row}

-- what is told in a row, each entry by a number
abbrev pub part : List ℕ → Row → List ℕ
part told row = take row.count (drop row.first told)

-- the same; nothing where there is no row
abbrev pub part_of : List ℕ → Option Row → List ℕ
part_of told None = []
part_of told (Some row) = part told row

-- whether two rows tell the same
abbrev pub tell_alike : List ℕ → Row → Row → Bool
tell_alike told one other = bytes_eq (part told one) (part told other)

-- how many of the first ones tell the same, of some rows and of others
unfoldable pub alike : List ℕ → List Row → List Row → ℕ
alike told [] others = 0
alike told (row ∷ rows) [] = 0
alike told (row ∷ rows) (other ∷ others) = if tell_alike told row other then suc (alike told rows others) else 0

-- how many rows after a block of so many repeat it, in whole blocks
unfoldable pub again : List ℕ → List Row → ℕ → ℕ
again told rows block = alike told rows (drop block rows) / block * block

-- the shortest block that comes three times, among so many lengths from one on
unfoldable pub shortest : List ℕ → List Row → ℕ → ℕ → Option ℕ
shortest told rows zero block = None
shortest told rows (suc lengths) block =
    if nat_lt (again told rows block / 2) block then shortest told rows lengths (suc block) else Some block

-- a block of so many rows with what repeats it, or the first row alone
abbrev pub fold_by : List ℕ → List Row → ℕ → Option ℕ → Fold
fold_by told rows number (Some length) = record { first = number; block = length; repeated = again told rows length }
fold_by told rows number None = record { first = number; block = 1; repeated = 0 }

-- the block that some rows begin with, of which the first has this number: the shortest below 25 rows that comes three times
abbrev pub first_fold : List ℕ → ℕ → List Row → Fold
first_fold told number rows = fold_by told rows number (shortest told rows 24 1)

-- the blocks of some rows, of which the first has this number and so many belong to the block before
unfoldable pub folds_after : List ℕ → ℕ → ℕ → List Row → List Fold
folds_after told number taken [] = []
folds_after told number (suc taken) (row ∷ rows) = folds_after told (suc number) taken rows
folds_after told number zero (row ∷ rows) =
    let fold = first_fold told number (row ∷ rows) in
    fold ∷ folds_after told (suc number) (fold.block + fold.repeated - 1) rows

-- the blocks of some rows: each row stands in one or repeats one
abbrev pub folds : List ℕ → List Row → List Fold
folds told rows = folds_after told 0 0 rows

-- so many rows from behind a block on tell the same as those that stand a block before them
abbrev pub Repeats : List ℕ → List Row → ℕ → ℕ → ℕ → Type 0
Repeats told rows first block repeated =
    (k : ℕ) → k < repeated → part_of told (slice_get rows (first + k)) ≡ part_of told (slice_get rows (first + k + block))

-- a block, with the rows behind it that repeat it
pub record IsFold (told : List ℕ) (rows : List Row) (f : Fold) : Type 0 where
  pub some : 1 ≤ f.block
  pub within : f.first + f.block + f.repeated ≤ length rows
  pub repeats : Repeats told rows f.first f.block f.repeated

-- each block begins where the one before it and what repeats that end; the first begins here, and the last ends there
abbrev pub AreFolds : List ℕ → List Row → ℕ → List Fold → ℕ → Type 0
AreFolds told rows first [] end = first ≡ end
AreFolds told rows first (f ∷ fs) end =
    (f.first ≡ first) × IsFold told rows f × AreFolds told rows (first + f.block + f.repeated) fs end
