-- The limits on texts, on scripts and on journals, which are this project's own.
use Rattle.std.specs.Prelude.{ℕ}

-- how many bytes a text may have
abbrev pub max_text : ℕ
max_text = 65536

-- the highest altitude; the lowest is 1
abbrev pub max_altitude : ℕ
max_altitude = 4294967295

-- how many locks a filter may have
abbrev pub max_locks : ℕ
max_locks = 8

-- how many callbacks there may be
abbrev pub max_callbacks : ℕ
max_callbacks = 16

-- how deep blocks nest, the callback's own counted
abbrev pub max_depth : ℕ
max_depth = 32

-- how deep repeats nest
abbrev pub max_repeats : ℕ
max_repeats = 4

-- the greatest number of turns
abbrev pub max_turns : ℕ
max_turns = 1000

-- how many points a callback has at most, with the one for its end
abbrev pub max_points : ℕ
max_points = 512

-- how much a callback costs at most, with 1 for its end
abbrev pub max_cost : ℕ
max_cost = 1000000

-- how many filters are loaded at most
abbrev pub max_filters : ℕ
max_filters = 16

-- how many entries a journal has at most
abbrev pub max_entries : ℕ
max_entries = 1000000

-- how many operations arrive at most
abbrev pub max_operations : ℕ
max_operations = 65536
