-- Bytes at the front of a line.
use Rattle.std.proofs.Common.{◌≡◌, ℕ, List, length, take, min, arith}
use Rattle.std.proofs.lemmas.Grind.{common_steps}

-- no more bytes than there are
pub within : (line : List ℕ) (k n : ℕ) → n ≡ min k (length line) → take n line ≡ take k line
within line k n is = grind (arith, common_steps)
