-- What a set of pairs of numbers has. This project's own definitions.
use Rattle.std.specs.Prelude.{ℕ, Bool, ◌&&◌, ◌==◌}
use Rattle.std.specs.BTreeSet.{BTreeSet, contains}
use Rattle.std.specs.Ordering.{nat_cmp, ordering_then}
use Rattle.std.specs.declared.cmp.Ordering.{Ordering}

-- the order of the pairs: by the first number, then by the second
abbrev pub pair_cmp : ℕ × ℕ → ℕ × ℕ → Ordering
pair_cmp p q = ordering_then (nat_cmp p.0 q.0) (nat_cmp p.1 q.1)

-- the pair is there
unfoldable pub has : BTreeSet (ℕ × ℕ) → ℕ → ℕ → Bool
has s a b = contains pair_cmp s (a, b)

-- whether two pairs are one
abbrev pub is_pair : ℕ → ℕ → ℕ → ℕ → Bool
is_pair a b c d = (a == c) && (b == d)
