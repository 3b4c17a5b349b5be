-- What is shown of bytes from outside. This project's own rule; which bytes are characters says Unicode, table 3-7.
use Rattle.std.specs.Prelude.{◌≡◌, ℕ, zero, suc, ◌==◌, Bool, true, false, ◌&&◌, ◌||◌, if◌then◌else◌, List, [], ◌∷◌}
use Rattle.std.specs.Prelude.{◌++◌, Option, Some, None, drop, length, replicate, take}
use Rattle.std.specs.Int.{is_in_range}

-- bytes of a text, a C file or a name
abbrev pub Text : Type 0
Text = List ℕ

-- ---- characters

-- the least and the greatest that a byte may be
abbrev pub Range : Type 0
Range = ℕ × ℕ

-- whether a text begins with bytes in these ranges
abbrev pub begins : List Range → Text → Bool
begins [] z = true
begins (r ∷ rs) [] = false
begins (r ∷ rs) (b ∷ z) = is_in_range r.0 r.1 b && begins rs z

-- whether it begins with bytes in those of one of some rows
abbrev pub begins_any : List (List Range) → Text → Bool
begins_any [] z = false
begins_any (row ∷ rows) z = begins row z || begins_any rows z

-- characters that a terminal shows as they stand, of one byte
abbrev pub printable : List Range
printable = (32, 126) ∷ []

-- all of one byte
abbrev pub ascii : List Range
ascii = (0, 127) ∷ []

-- the characters of several bytes on which a terminal may act: controls, those that turn the direction of text, those that end a line
abbrev pub acting_pairs : List (List Range)
acting_pairs = ((0xC2, 0xC2) ∷ (0x80, 0x9F) ∷ []) ∷ ((0xD8, 0xD8) ∷ (0x9C, 0x9C) ∷ []) ∷ []

abbrev pub acting_triples : List (List Range)
acting_triples =
    ((0xE2, 0xE2) ∷ (0x80, 0x80) ∷ (0x8E, 0x8F) ∷ []) ∷ ((0xE2, 0xE2) ∷ (0x80, 0x80) ∷ (0xA8, 0xAE) ∷ [])
    ∷ ((0xE2, 0xE2) ∷ (0x81, 0x81) ∷ (0xA6, 0xA9) ∷ []) ∷ []

-- the others, of two, of three and of four bytes
abbrev pub pairs : List (List Range)
pairs = ((0xC2, 0xDF) ∷ (0x80, 0xBF) ∷ []) ∷ []

abbrev pub triples : List (List Range)
triples =
    ((0xE0, 0xE0) ∷ (0xA0, 0xBF) ∷ (0x80, 0xBF) ∷ []) ∷ ((0xE1, 0xEC) ∷ (0x80, 0xBF) ∷ (0x80, 0xBF) ∷ [])
    ∷ ((0xED, 0xED) ∷ (0x80, 0x9F) ∷ (0x80, 0xBF) ∷ []) ∷ ((0xEE, 0xEF) ∷ (0x80, 0xBF) ∷ (0x80, 0xBF) ∷ []) ∷ []

abbrev pub quads : List (List Range)
quads =
    ((0xF0, 0xF0) ∷ (0x90, 0xBF) ∷ (0x80, 0xBF) ∷ (0x80, 0xBF) ∷ [])
    ∷ ((0xF1, 0xF3) ∷ (0x80, 0xBF) ∷ (0x80, 0xBF) ∷ (0x80, 0xBF) ∷ [])
    ∷ ((0xF4, 0xF4) ∷ (0x80, 0x8F) ∷ (0x80, 0xBF) ∷ (0x80, 0xBF) ∷ []) ∷ []

-- how many bytes the first character has behind its first one, and whether it is shown; a byte that begins none is one by itself
abbrev pub long_character : Text → ℕ × Bool
long_character z =
    if begins_any acting_pairs z then (1, false)
    else (if begins_any acting_triples z then (2, false)
    else (if begins_any pairs z then (1, true)
    else (if begins_any triples z then (2, true)
    else (if begins_any quads z then (3, true)
    else (0, false)))))

-- the same of what is printable, of what else has one byte, or of the rest
abbrev pub character_by : Bool → Bool → Text → ℕ × Bool
character_by true is_ascii z = (0, true)
character_by false true z = (0, false)
character_by false false z = long_character z

abbrev pub character : Text → ℕ × Bool
character z = character_by (begins printable z) (begins ascii z) z

-- what is shown in place of each byte of a character that isn't, by its first one: a blank for a tab
abbrev pub sign_of : ℕ → ℕ
sign_of b = if b == 9 then 32 else 63

-- that sign; none where the character is shown as it stands
abbrev pub sign_by : Bool → ℕ → Option ℕ
sign_by true b = None
sign_by false b = Some (sign_of b)

-- one byte of a character, or the sign in its place
abbrev pub byte_shown : Option ℕ → ℕ → ℕ
byte_shown None b = b
byte_shown (Some sign) b = sign

-- what is shown of a text that begins with so many bytes that belong to a character
abbrev pub shown_from : ℕ → Option ℕ → Text → Text
shown_from n sign [] = []
shown_from zero sign (b ∷ z) =
    byte_shown (sign_by (character (b ∷ z)).1 b) b ∷ shown_from (character (b ∷ z)).0 (sign_by (character (b ∷ z)).1 b) z
shown_from (suc n) sign (b ∷ z) = byte_shown sign b ∷ shown_from n sign z

-- What is shown of a text: each byte has one column. In place of what a terminal may act on, and of what is no character, there is a `?`
-- for each byte; a tab is a blank.
abbrev pub shown : Text → Text
shown = shown_from 0 None

-- so many first bytes, of one character or of some that are printable, as they are shown
abbrev pub front_of : Bool → Text → Text
front_of true z = z
front_of false [] = []
front_of false (b ∷ z) = sign_of b ∷ replicate (length z) (sign_of b)

-- what is shown of a text is what is shown of so many bytes, and of the rest
abbrev pub IsStretch : Text → ℕ → Bool → Type 0
IsStretch z count is_shown = shown z ≡ front_of is_shown (take count z) ++ shown (drop count z)
