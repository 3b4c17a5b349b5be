-- The lines of states that hold no lock. Behind their numbers, all of them have one length.
use Rattle.std.specs.Prelude.{ℕ, ◌<◌, ◌≤◌, [], ◌∷◌, ◌++◌, get_or, codes}
use Rattle.flt_cert.specs.Text.{Text}

-- what stands behind the number of such a line: the least byte at each place, and the greatest
abbrev pub least : Text
least = codes " 111111111 11111 1 1 -" ++ 10 ∷ []

abbrev pub greatest : Text
greatest = codes " 777777777 77777 3 3 -" ++ 10 ∷ []

-- a byte that may stand at a place
abbrev pub Within : ℕ → ℕ → Type 0
Within place b = (get_or least place 0 ≤ b) × (b ≤ get_or greatest place 0)

-- each byte may stand at its place
unfoldable pub InBounds : Text → Type 0
InBounds text = (place : ℕ) → place < 23 → Within place (get_or text place 0)
