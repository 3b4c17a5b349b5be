-- How many workers can be asked for. This project's own program.
use Rattle.std.specs.Prelude.{ℕ, ◌&&◌, Option, Some, None, nat_lt, if◌then◌else◌}

-- a number of workers, where it is one from 1 to 16
abbrev pub within : ℕ → Option ℕ
within count = if nat_lt 0 count && nat_lt count 17 then Some count else None
