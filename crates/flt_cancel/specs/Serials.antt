-- Which bit of which word a serial is. All of it is this project's own rule.
use Rattle.std.specs.Prelude.{◌≡◌, ℕ, zero, suc, ◌+◌, ◌*◌, ◌/◌, ◌%◌, ◌^◌, ◌==◌, List, [], ◌∷◌, ◌++◌, slice_index, if◌then◌else◌}
use Rattle.std.specs.Int.{bit_at}

-- the word that a serial's bit stands in
abbrev pub word_of : ℕ → ℕ
word_of serial = serial / 64

-- the place of its bit there
abbrev pub place_of : ℕ → ℕ
place_of serial = serial % 64

-- the group that a serial's word is in: 16 words, one after the other
abbrev pub group_of : ℕ → ℕ
group_of serial = serial / 1024

-- a word in which no bit is set but the serial's
abbrev pub mask_of : ℕ → ℕ
mask_of serial = 2 ^ place_of serial

-- the serial's bit in these words, 1 where it is set and else 0
abbrev pub present : List ℕ → ℕ → ℕ
present words serial = bit_at (slice_index words (word_of serial)) (place_of serial)

-- the serial's bit is set in these words
abbrev pub IsPresent : List ℕ → ℕ → Type 0
IsPresent words serial = present words serial ≡ 1

-- the serials of a word whose bits are set, of its lowest `count` bits, rising
abbrev pub serials_below : ℕ → ℕ → ℕ → List ℕ
serials_below zero word bits = []
serials_below (suc count) word bits = serials_below count word bits ++ (if bit_at bits count == 1 then (64 * word + count) ∷ [] else [])

-- the serials of a word whose bits are set, rising
abbrev pub serials : ℕ → ℕ → List ℕ
serials word bits = serials_below 64 word bits
