-- Bytes at the front and at the end of a line.
use Rattle.std.proofs.Common.{◌≡◌, ℕ, List, drop, length, take, min, arith}
use Rattle.std.proofs.lemmas.Grind.{common_steps}

-- no more bytes than there are
pub within : (line : List ℕ) (k n : ℕ) → n ≡ min k (length line) → take n line ≡ take k line
within line k n is = grind (arith, common_steps)

-- none where no more are there
pub past : (line : List ℕ) (k n : ℕ) → n ≡ min k (length line) → drop n line ≡ drop k line
past line k n is = grind (arith, common_steps)
