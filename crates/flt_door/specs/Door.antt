-- What goes out to a terminal, a page or an editor. This project's own rule.
use Rattle.std.specs.Prelude.{◌≡◌, ℕ, zero, suc, Bool, true, false, if◌then◌else◌, List, [], ◌∷◌, ◌++◌, Option, None, drop, length, take}
use Rattle.flt_shown.specs.Shown.{Range, Text, begins, begins_any, byte_shown, character, front_of, sign_by}

-- ---- what passes

-- the end of a line
abbrev pub line_feed : List Range
line_feed = (10, 10) ∷ []

-- the program's own signs for a terminal, without the colours: `ESC[0m` and `ESC[1m`
abbrev pub bold_signs : List (List Range)
bold_signs = ((27, 27) ∷ (91, 91) ∷ (48, 49) ∷ (109, 109) ∷ []) ∷ []

-- its colours: `ESC[1;31m`, and `ESC[1;33m` and `ESC[1;34m`
abbrev pub colours : List (List Range)
colours =
    ((27, 27) ∷ (91, 91) ∷ (49, 49) ∷ (59, 59) ∷ (51, 51) ∷ (49, 49) ∷ (109, 109) ∷ [])
    ∷ ((27, 27) ∷ (91, 91) ∷ (49, 49) ∷ (59, 59) ∷ (51, 51) ∷ (51, 52) ∷ (109, 109) ∷ []) ∷ []

-- how many bytes the first piece has behind its first one, and whether it passes: a line feed, such a sign, or a character that is shown
abbrev pub piece : Text → ℕ × Bool
piece z =
    if begins line_feed z then (0, true)
    else (if begins_any bold_signs z then (3, true)
    else (if begins_any colours z then (6, true)
    else character z))

-- ---- what goes out

-- what goes out of a text that begins with so many bytes that belong to a piece
abbrev pub at_door_from : ℕ → Option ℕ → Text → Text
at_door_from n sign [] = []
at_door_from zero sign (b ∷ z) =
    byte_shown (sign_by (piece (b ∷ z)).1 b) b ∷ at_door_from (piece (b ∷ z)).0 (sign_by (piece (b ∷ z)).1 b) z
at_door_from (suc n) sign (b ∷ z) = byte_shown sign b ∷ at_door_from n sign z

-- What goes out of a text, byte for byte: each piece that passes, and for each byte of another one the sign of what isn't shown.
abbrev pub at_door : Text → Text
at_door = at_door_from 0 None

-- what goes out of a text is what goes out of so many bytes, of one piece or of some that pass, and of the rest
abbrev pub IsFront : Text → ℕ → Bool → Type 0
IsFront z count passes = at_door z ≡ front_of passes (take count z) ++ at_door (drop count z)

-- ---- that all of it is shown

-- these bytes are one piece that passes
abbrev pub Passes : Text → Type 0
Passes [] = ⊥
Passes (b ∷ p) = piece (b ∷ p) ≡ (length p, true)

-- each byte is a line feed, or belongs to one of the program's own signs or to a character that is shown
pub data AreShown : Text → Type 0 where
  nothing : AreShown []
  one_more : (p z : Text) → Passes p → AreShown z → AreShown (p ++ z)
