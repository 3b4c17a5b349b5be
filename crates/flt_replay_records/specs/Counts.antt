-- What running counts say: how often each number was counted.
use Rattle.std.specs.Prelude.{ℕ, List, sum_by, get_or}
use Rattle.std.specs.BTreeMap.{is_at}
use Rattle.std.specs.Map.{lookup}
use Rattle.std.specs.Option.{unwrap_or}
use Rattle.std.specs.Ordering.{nat_cmp}
use Rattle.flt_model.specs.Trace.{one_if}

-- how often a number was counted, where counts stand by number; what isn't there counts 0
unfoldable pub count : List ℕ → ℕ → ℕ
count times n = get_or times n 0

-- the same where each count stands beside its number
unfoldable pub count_in : List (ℕ × ℕ) → ℕ → ℕ
count_in entries n = unwrap_or (lookup (is_at (nat_cmp n)) entries) 0

-- how often a number stands in a list
abbrev pub occurs : ℕ → List ℕ → ℕ
occurs n numbers = sum_by (λ k. one_if k n) numbers
