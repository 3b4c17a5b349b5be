-- Lists of things one after the other, by their numbers. This project's own definitions.
use Rattle.std.specs.Prelude.{ℕ, List, [], ◌∷◌, ◌++◌, ◌+◌}

-- the lists of some things, of which the first has this number
abbrev pub counted : {A : Type 0} {B : Type 0} → (ℕ → A → List B) → ℕ → List A → List B
counted f number [] = []
counted f number (x ∷ xs) = f number x ++ counted f (number + 1) xs
