-- The findings of a callback by their points. This project's own definitions.
use Rattle.std.specs.Prelude.{◌≡◌, ℕ, ◌<◌, List, [], length, slice_index_or}
use Rattle.std.specs.List.{All}
use Rattle.flt_explain.specs.Told.{at_point}
use Rattle.flt_explain.specs.declared.finding.Finding.{Finding}

-- these findings are in callbacks before one
abbrev pub AreBefore : ℕ → List Finding → Type 0
AreBefore callback found = All (λ (h : Finding). h.callback < callback) found

-- for each of some points of a callback, these are the findings there
pub record AreByPoint (callback : ℕ) (lists : List (List Finding)) (found : List Finding) : Type 0 where
  pub each : (point : ℕ) → point < length lists → slice_index_or lists point [] ≡ at_point callback point found
