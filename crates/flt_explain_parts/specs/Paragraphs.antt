-- Paragraphs of pages.
use Rattle.std.specs.Prelude.{ℕ, List, [], ◌∷◌, ◌++◌, ◌==◌}
use Rattle.std.specs.List.{slice_split}

-- the lines after the first one that is empty
abbrev pub after_gap : List (List ℕ) → List (List ℕ)
after_gap [] = []
after_gap ([] ∷ lines) = lines
after_gap ((b ∷ line) ∷ lines) = after_gap lines

-- lines up to one that is empty, each after a blank
abbrev pub continued : List (List ℕ) → List ℕ
continued [] = []
continued ([] ∷ lines) = []
continued ((b ∷ line) ∷ lines) = 32 ∷ b ∷ line ++ continued lines

-- lines up to one that is empty, as one line
abbrev pub joined : List (List ℕ) → List ℕ
joined [] = []
joined (line ∷ lines) = line ++ continued lines

-- what a page says first after its title, as one line
abbrev pub first_paragraph : List ℕ → List ℕ
first_paragraph page = joined (after_gap (slice_split (λ b. b == 10) page))
