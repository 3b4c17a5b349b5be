-- How often each number was counted of each activation, or of each context: of each, one number in place, and others beside it.
use Rattle.std.specs.Prelude.{◌≡◌, ℕ, ◌+◌, ◌==◌, if◌then◌else◌, List, [], get_or}
use Rattle.std.specs.BTreeMap.{is_at}
use Rattle.std.specs.Map.{lookup}
use Rattle.std.specs.Option.{unwrap_or}
use Rattle.std.specs.Ordering.{nat_cmp}
use Rattle.flt_replay_records.specs.Counts.{count_in}
use Rattle.flt_replay.specs.declared.ledger.rows.First.{First}

-- by activation the number in place, and the others of each that has some
pub record Counted : Type 0 where
  pub firsts : List First
  pub others : List (ℕ × List (ℕ × ℕ))

-- a number that counts 0
abbrev pub blank : First
blank = record { number = 0; times = 0 }

-- how often the number in place was counted
unfoldable pub in_place : First → ℕ → ℕ
in_place f n = if f.number == n then f.times else 0

-- how often one of the others was counted of an activation
unfoldable pub count_among : List (ℕ × List (ℕ × ℕ)) → ℕ → ℕ → ℕ
count_among rows a n = count_in (unwrap_or (lookup (is_at (nat_cmp a)) rows) []) n

-- how often a number was counted of an activation
unfoldable pub count_of : Counted → ℕ → ℕ → ℕ
count_of c a n = in_place (get_or c.firsts a blank) n + count_among c.others a n

-- no number in place is one of the others
abbrev pub AreApart : Counted → Type 0
AreApart c = (a : ℕ) → count_among c.others a (get_or c.firsts a blank).number ≡ 0
