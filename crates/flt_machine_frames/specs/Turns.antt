-- The repeats in progress round a point, the innermost first. This project's own representation.
use Rattle.std.specs.Prelude.{ℕ, Bool, false, ◌&&◌, ◌==◌, ◌++◌, nat_lt, if◌then◌else◌, List, [], ◌∷◌, drop, length, Option, Some, None}
use Rattle.flt_rules.specs.Limits.{max_repeats}
use Rattle.flt_graph.specs.declared.turns.Turn.{Turn}

-- what stands in an unused place
abbrev pub no_turn : Turn
no_turn = record { point = 0; left = 0 }

-- whether the innermost `repeat` is the one at a point
abbrev pub has_first : ℕ → List Turn → Bool
has_first point [] = false
has_first point (first ∷ rest) = first.point == point

-- the places without the first one, and a blank behind them
abbrev pub without_first : List Turn → List Turn
without_first places = drop 1 places ++ no_turn ∷ []

-- one `repeat` more within the others, unless they are as many as may nest
abbrev pub with_turn : Turn → List Turn → Option (List Turn)
with_turn turn turns = if nat_lt (length turns) max_repeats then Some (turn ∷ turns) else None

-- whether two turns are of one `repeat`, with as many left
abbrev pub same_turn : Turn → Turn → Bool
same_turn t u = (t.point == u.point) && (t.left == u.left)
