-- Counts of transfers.
use Rattle.std.specs.Prelude.{ℕ, ◌==◌, ◌&&◌, if◌then◌else◌}

-- one for the point of a callback that is watched, none for another
abbrev pub one_at : ℕ → ℕ → ℕ → ℕ → ℕ
one_at watched_callback watched_point callback point =
    if callback == watched_callback && point == watched_point then 1 else 0
