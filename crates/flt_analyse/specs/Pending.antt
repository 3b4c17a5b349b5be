-- Sets of points below 512, as a flag for each. This project's own definitions.
use Rattle.std.specs.Prelude.{ℕ, zero, suc, Bool, true, false, List, [], ◌∷◌, ◌++◌, Option, Some, None, ◌==◌, slice_set}
use Rattle.std.specs.Int.{bit_at}

-- the flags of so many bits of a word, from a bit on
abbrev pub word_flags : ℕ → ℕ → ℕ → List Bool
word_flags word bit zero = []
word_flags word bit (suc n) = (bit_at word bit == 1) ∷ word_flags word (suc bit) n

-- the flags of words of 64 bits
abbrev pub flags : List ℕ → List Bool
flags [] = []
flags (word ∷ words) = word_flags word 0 64 ++ flags words

-- no point is in the set
abbrev pub no_flags : ℕ → List Bool
no_flags zero = []
no_flags (suc n) = false ∷ no_flags n

-- the first flag that is set, where the list starts at a point
abbrev pub least_from : ℕ → List Bool → Option ℕ
least_from point [] = None
least_from point (true ∷ set) = Some point
least_from point (false ∷ set) = least_from (suc point) set

-- the least point of a set
abbrev pub least : List Bool → Option ℕ
least = least_from 0

-- the set without a point
abbrev pub without : Option ℕ → List Bool → List Bool
without (Some point) set = slice_set set point false
without None set = set
