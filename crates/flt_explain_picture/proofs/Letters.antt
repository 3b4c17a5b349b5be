-- Words without markup, letter by letter.
use Rattle.std.proofs.Common.{◌≡◌, ℕ, List, [], ◌++◌, length, chars, encode_utf8, IsUtf8, ap, ◌∙◌}
use Rattle.std.proofs.lemmas.List.{nil_from_length}
use Rattle.std.proofs.lemmas.Str.{chars_past_char, chars-nil}
use Rattle.flt_explain_picture.specs.Pictures.{escaped, escaped_letter}

-- of no letters nothing is written
pub escaped_nothing : (words : List ℕ) → length words ≡ 0 → escaped words ≡ []
unfolding escaped
escaped_nothing words none = rw (ap chars (nil_from_length words none) ∙ chars-nil)

-- of words the first letter is written, and what is written of the others
pub escaped_step : (words rest : List ℕ) (c : ℕ) → IsUtf8 words → words ≡ encode_utf8 c ++ rest
    → escaped words ≡ escaped_letter c ++ escaped rest
unfolding escaped
escaped_step words rest c utf8 parts = rw (chars_past_char words rest c utf8 parts)
