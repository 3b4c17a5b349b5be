-- Lines of words: how the canonical text is laid out. This project's own rule.
use Rattle.std.specs.Prelude.{ℕ, zero, suc, List, [], ◌∷◌, ◌++◌, flat_map}
use Rattle.flt_tree.specs.Names.{Text}

-- a line: how deep it stands, and its words
pub record Line : Type 0 where
  pub level : ℕ
  pub words : List Text

abbrev pub line : ℕ → List Text → Line
line level words = record { level = level; words = words }

-- two blanks a level
abbrev pub indentation : ℕ → Text
indentation zero = []
indentation (suc level) = 32 ∷ 32 ∷ indentation level

-- words, with a blank before each
abbrev pub spaced : List Text → Text
spaced = flat_map (λ w. 32 ∷ w)

-- words, with one blank between two
abbrev pub joined : List Text → Text
joined [] = []
joined (w ∷ ws) = w ++ spaced ws

-- the beginning of a line, up to some of its words
abbrev pub begun : ℕ → List Text → Text
begun level words = indentation level ++ joined words

-- a line ends with a line feed
abbrev pub line_text : Line → Text
line_text l = begun l.level l.words ++ 10 ∷ []

-- the lines, one behind the other
abbrev pub lines_text : List Line → Text
lines_text = flat_map line_text
