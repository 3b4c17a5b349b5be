-- How work items are kept, by this project's own rule: by filter, how many of its items wait.
use Rattle.std.specs.Prelude.{◌≡◌, ℕ, ◌+◌, ◌<◌, if◌then◌else◌, List, [], ◌∷◌, Option, length, get_or}
use Rattle.flt_model.specs.Moves.{is_item_of}
use Rattle.flt_model.specs.declared.parts.Item.{Item}

-- what an item adds to a filter's count
abbrev pub counted : ℕ → Option Item → ℕ
counted f item = if is_item_of f item then 1 else 0

-- how many items of a filter wait
abbrev pub waiting_of : ℕ → List (Option Item) → ℕ
waiting_of f [] = 0
waiting_of f (item ∷ items) = counted f item + waiting_of f items

-- each filter that has a count has that of its items
abbrev pub AreCounted : List (Option Item) → List ℕ → Type 0
AreCounted items counts = (f : ℕ) → f < length counts → get_or counts f 0 ≡ waiting_of f items
