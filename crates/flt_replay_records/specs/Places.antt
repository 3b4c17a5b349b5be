-- What a set of places has. A place is a number, and two other numbers say of what it is.
use Rattle.std.specs.Prelude.{ℕ, Bool, ◌&&◌, ◌==◌}
use Rattle.std.specs.BTreeSet.{BTreeSet, contains}
use Rattle.std.specs.Ordering.{nat_cmp, ordering_then}
use Rattle.std.specs.declared.cmp.Ordering.{Ordering}

-- the order of the places
abbrev pub place_cmp : ℕ × ℕ × ℕ → ℕ × ℕ × ℕ → Ordering
place_cmp p q = ordering_then (ordering_then (nat_cmp p.0 q.0) (nat_cmp p.1 q.1)) (nat_cmp p.2 q.2)

-- the place is there
unfoldable pub has : BTreeSet (ℕ × ℕ × ℕ) → ℕ → ℕ → ℕ → Bool
has s i j k = contains place_cmp s (i, j, k)

-- whether two places are one
abbrev pub is_place : ℕ → ℕ → ℕ → ℕ → ℕ → ℕ → Bool
is_place i j k a b c = (i == a) && ((j == b) && (k == c))
