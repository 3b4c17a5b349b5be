-- How often each activation holds each context, counted by context, and how often it holds contexts in all.
use Rattle.std.specs.Prelude.{◌≡◌, ℕ, zero, suc, ◌+◌, ◌≤◌, List}
use Rattle.flt_replay_records.specs.Counts.{count}
use Rattle.flt_replay.specs.Rows.{Counted, count_of}

-- how often an activation holds a context
unfoldable pub times_held : Counted → ℕ → ℕ → ℕ
times_held c a x = count_of c x a

-- the sum of what numbers below one have
unfoldable pub sum_below : ℕ → (ℕ → ℕ) → ℕ
sum_below zero f = 0
sum_below (suc n) f = f n + sum_below n f

-- the totals are the sums, and all that is held is known
pub record AreTotals (c : Counted) (totals : List ℕ) (known : ℕ) : Type 0 where
  pub each : (a : ℕ) → count totals a ≡ sum_below known (times_held c a)
  pub bounded : (a x : ℕ) → known ≤ x → times_held c a x ≡ 0
