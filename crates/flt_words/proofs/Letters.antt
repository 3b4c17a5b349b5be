-- Words as they are shown, character by character.
use Rattle.std.proofs.Common.{◌≡◌, ℕ, List, [], ◌++◌, length, chars, encode_utf8, IsUtf8, ap, ◌∙◌}
use Rattle.std.proofs.lemmas.List.{nil_from_length}
use Rattle.std.proofs.lemmas.Str.{chars_past_char, chars-nil}
use Rattle.flt_words.specs.Shown.{shown, visible}

-- no words show nothing
pub visible_nothing : (words : List ℕ) → length words ≡ 0 → visible words ≡ []
unfolding visible
visible_nothing words none = rw (ap chars (nil_from_length words none) ∙ chars-nil)

-- the first character of words is shown, and then the rest
pub visible_step : (words rest : List ℕ) (c : ℕ) → IsUtf8 words → words ≡ encode_utf8 c ++ rest → visible words ≡ shown c ++ visible rest
unfolding visible
visible_step words rest c utf8 parts = rw (chars_past_char words rest c utf8 parts)
