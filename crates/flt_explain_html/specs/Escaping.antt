-- Bytes without markup. The names are those of HTML.
use Rattle.std.specs.Prelude.{ℕ, ◌==◌, List, [], ◌∷◌, codes, flat_map, if◌then◌else◌}

abbrev pub Text : Type 0
Text = List ℕ

-- a byte, or its name where it would be markup
abbrev pub escaped_byte : ℕ → Text
escaped_byte b =
    if b == 60 then codes "&lt;" else (if b == 62 then codes "&gt;" else (if b == 38 then codes "&amp;" else (if b == 34 then codes "&quot;"
    else b ∷ [])))

-- bytes, each by its name where it would be markup
abbrev pub escaped : Text → Text
escaped bytes = flat_map escaped_byte bytes
