-- The parts of a file that letters belong to, and the letters that make words. This project's own rule.
use Rattle.std.specs.Prelude.{ℕ, Bool, true, false, ◌||◌, ◌==◌}
use Rattle.std.specs.Char.{is_ascii_alphanumeric}
use Rattle.flt_c.specs.declared.letter.Part.{Part}
use Rattle.flt_c.specs.declared.letter.Part.TheVariants as part

-- ---- parts

abbrev pub is_code : Part → Bool
is_code part.Code = true
is_code _ = false

abbrev pub is_note : Part → Bool
is_note part.Note = true
is_note _ = false

abbrev pub is_aside : Part → Bool
is_aside part.Aside = true
is_aside _ = false

abbrev pub same_part : Part → Part → Bool
same_part part.Code second = is_code second
same_part part.Note second = is_note second
same_part part.Aside second = is_aside second
same_part part.Other second = false

-- ---- words

-- a space, a tab, a line feed or a carriage return
abbrev pub is_blank : ℕ → Bool
is_blank b = b == 32 || b == 9 || b == 10 || b == 13

-- letters, digits and `_`
abbrev pub is_word_byte : ℕ → Bool
is_word_byte b = is_ascii_alphanumeric b || b == 95

-- bytes of words; the `-` after a marker belongs to the word that says which kind of comment it is
abbrev pub is_of_word : Part → ℕ → Bool
is_of_word part.Code b = is_word_byte b
is_of_word part.Note b = is_word_byte b
is_of_word part.Aside b = is_ascii_alphanumeric b || (b == 95 || b == 45)
is_of_word part.Other b = false
