-- Where the pending points of a walk begin, at the earliest. This project's own definitions.
use Rattle.std.specs.Prelude.{◌≡◌, ℕ, ◌<◌, min, Bool, false, List, Option, Some, None, slice_index_or}
use Rattle.flt_explain.specs.declared.sight.Way.{Way}

-- no flag before a number is set
pub record IsClear (n : ℕ) (flags : List Bool) : Type 0 where
  pub each : (point : ℕ) → point < n → slice_index_or flags point false ≡ false

-- the least of a number and the point of a way
abbrev pub earliest : ℕ → Option Way → ℕ
earliest n None = n
earliest n (Some y) = min n y.point
