-- Places in a file: lines and columns count from 1, bytes from 0. This project's own rule.
use Rattle.std.specs.Prelude.{ℕ, zero, suc, ◌+◌, ◌<◌, ◌^◌, if◌then◌else◌, ◌==◌, List, [], ◌∷◌}
use Rattle.flt_c.specs.declared.place.Place.{Place}

-- the place after a byte at a place; only a line feed ends a line
abbrev pub past : Place → ℕ → Place
past at b =
    if b == 10 then record { line = at.line + 1; column = 1; start = at.start + 1 }
    else record { line = at.line; column = at.column + 1; start = at.start + 1 }

-- the place after a line continuation of so many bytes
abbrev pub past_continuation : Place → ℕ → Place
past_continuation at n = record { line = at.line + 1; column = 1; start = at.start + n }

-- the place after so many bytes of a text that begins at a place
abbrev pub place_from : Place → List ℕ → ℕ → Place
place_from at z zero = at
place_from at [] (suc n) = at
place_from at (b ∷ z) (suc n) = place_from (past at b) z n

-- where a file begins
abbrev pub first_place : Place
first_place = record { line = 1; column = 1; start = 0 }

-- the place in a file before which so many bytes stand
abbrev pub place_of : List ℕ → ℕ → Place
place_of file n = place_from first_place file n

-- a place in a file of less than 2^32 bytes
abbrev pub IsSmall : Place → Type 0
IsSmall at = (at.line < 2 ^ 40) × ((at.column < 2 ^ 40) × (at.start < 2 ^ 40))
