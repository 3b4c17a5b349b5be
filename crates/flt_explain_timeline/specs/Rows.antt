-- Rows of a timeline. This project's own definitions.
use Rattle.std.specs.Prelude.{◌≡◌, ◌≤◌, ◌+◌, ◌==◌, ℕ, Bool, true, false, not, ◌&&◌, ◌||◌}
use Rattle.std.specs.Prelude.{List, [], ◌∷◌, Option, Some, None, if◌then◌else◌, is_none}
use Rattle.flt_explain_timeline.specs.declared.rows.Row.{Row}
use Rattle.flt_explain_timeline.specs.declared.telling.Who.{Who}

-- two numbers that are the same, or none twice
abbrev pub is_same : Option ℕ → Option ℕ → Bool
is_same None None = true
is_same (Some one) (Some other) = one == other
is_same _ _ = false

-- whether an entry stands in the row of the one before it: nothing ended with that, no other activation is on, and both are about one
-- operation or about none
abbrev pub joins : Who → Who → Bool
joins last next =
    not last.ends && (is_none last.activation || is_same last.activation next.activation) && is_same last.operation next.operation

-- the rows from one on that began with an entry of this number and has so many so far, the last of which is this
unfoldable pub rows_after : ℕ → ℕ → Who → List Who → List Row
rows_after first count last [] = record { first = first; count = count } ∷ []
rows_after first count last (next ∷ whos) =
    if joins last next then rows_after first (count + 1) next whos
    else record { first = first; count = count } ∷ rows_after (first + count) 1 next whos

-- the rows of some entries
abbrev pub rows_of : List Who → List Row
rows_of [] = []
rows_of (who ∷ whos) = rows_after 0 1 who whos

-- each row begins where the one before it ends and has an entry at least; the first begins here, and the last ends there
abbrev pub Cover : ℕ → List Row → ℕ → Type 0
Cover first [] end = first ≡ end
Cover first (r ∷ rs) end = (r.first ≡ first) × (1 ≤ r.count) × Cover (first + r.count) rs end
