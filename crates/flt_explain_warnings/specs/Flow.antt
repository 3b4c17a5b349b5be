-- Which points of a callback are reached along a trail. This project's own definitions.
use Rattle.std.specs.Prelude.{ℕ, zero, suc, ◌+◌, Bool, true, false, ◌&&◌, if◌then◌else◌, List}
use Rattle.std.specs.Prelude.{replicate, slice_index_or, slice_set, Option, Some, None}
use Rattle.flt_graph.specs.Graph.{points_at, instruction_at}
use Rattle.flt_graph.specs.declared.graph.Graph.{Graph}
use Rattle.flt_explain_warnings.specs.Trail.{onward, ends}
use Rattle.flt_explain_warnings.specs.declared.trail.Trail.{Trail}

-- a point is marked
abbrev pub is_marked : List Bool → ℕ → Bool
is_marked marks point = slice_index_or marks point false

-- a point is marked from now on, if there is one
abbrev pub marked : List Bool → Option ℕ → List Bool
marked marks None = marks
marked marks (Some point) = slice_set marks point true

-- no point is marked
abbrev pub blank : ℕ → List Bool
blank n = replicate n false

-- where a point leads along the trail is marked, both ways
abbrev pub marked_behind : Graph → ℕ → Trail → ℕ → List Bool → List Bool
marked_behind g callback t point marks =
    marked (marked marks (onward g t (instruction_at g callback point) true)) (onward g t (instruction_at g callback point) false)

-- the same, if the point is marked itself
abbrev pub followed : Graph → ℕ → Trail → ℕ → List Bool → List Bool
followed g callback t point marks = if is_marked marks point then marked_behind g callback t point marks else marks

-- so many points are followed, from one on
unfoldable pub followed_from : Graph → ℕ → Trail → ℕ → ℕ → List Bool → List Bool
followed_from g callback t point zero marks = marks
followed_from g callback t point (suc n) marks = followed_from g callback t (point + 1) n (followed g callback t point marks)

-- all points of the callback are followed once, in order
abbrev pub passed : Graph → ℕ → Trail → List Bool → List Bool
passed g callback t marks = followed_from g callback t 0 (points_at g callback) marks

-- that is done so many times
unfoldable pub settled : Graph → ℕ → Trail → ℕ → List Bool → List Bool
settled g callback t zero marks = marks
settled g callback t (suc n) marks = settled g callback t n (passed g callback t marks)

-- the points that are reached along a trail from one point: all are followed as often as there are points, so that a path back through
-- each `repeat` is found
abbrev pub reached : Graph → ℕ → Trail → ℕ → List Bool
reached g callback t start = settled g callback t (points_at g callback) (marked (blank (points_at g callback)) (Some start))

-- a point is marked and is what the trail looks for
abbrev pub is_end : Graph → ℕ → Trail → List Bool → ℕ → Bool
is_end g callback t marks point = is_marked marks point && ends t (instruction_at g callback point)

-- the first such of so many points, from one on
unfoldable pub first_end_from : Graph → ℕ → Trail → List Bool → ℕ → ℕ → Option ℕ
first_end_from g callback t marks point zero = None
first_end_from g callback t marks point (suc n) =
    if is_end g callback t marks point then Some point else first_end_from g callback t marks (point + 1) n

-- the same of all points of a callback
abbrev pub first_end : Graph → ℕ → Trail → List Bool → Option ℕ
first_end g callback t marks = first_end_from g callback t marks 0 (points_at g callback)

-- the first point of a callback that is reached along a trail from one point and is what the trail looks for
abbrev pub end_from : Graph → ℕ → Trail → ℕ → Option ℕ
end_from g callback t start = first_end g callback t (reached g callback t start)
