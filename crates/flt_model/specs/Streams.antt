-- What a reader still gives. This project's own rule.
use Rattle.std.specs.Prelude.{◌≡◌, ℕ, List, [], ◌∷◌, ◌++◌, Option, Some, None}

-- bytes
abbrev pub Text : Type 0
Text = List ℕ

-- the first of the bytes to come is given; the end only where none is left
abbrev pub Gives : Text → Option ℕ → Text → Type 0
Gives coming (Some byte) left = coming ≡ byte ∷ left
Gives coming None left = (coming ≡ []) × (left ≡ [])

-- these come before all others
abbrev pub ComesFirst : Text → Text → Type 0
ComesFirst front coming = (left : Text) × (coming ≡ front ++ left)

-- the bytes of a reader that are known; none where they aren't
abbrev pub known_bytes : Option Text → Text
known_bytes None = []
known_bytes (Some bytes) = bytes
