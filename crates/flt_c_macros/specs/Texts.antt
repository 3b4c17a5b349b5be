-- The spellings of words, by number.
use Rattle.std.specs.Prelude.{ℕ, List, [], Option, Some, None, slice_get}
use Rattle.flt_c_tokens.specs.Bytes.{Text}

abbrev pub Texts : Type 0
Texts = List Text

abbrev pub text_by : Option Text → Text
text_by None = []
text_by (Some text) = text

-- the spelling with a number
abbrev pub text_of : Texts → ℕ → Text
text_of texts number = text_by (slice_get texts number)
