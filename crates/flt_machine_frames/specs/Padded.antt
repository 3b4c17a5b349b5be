-- Lists in a fixed number of places: those that are not in use are blank, so that a list is kept in one way only.
use Rattle.std.specs.Prelude.{◌≡◌, ℕ, ◌-◌, ◌≤◌, List, ◌++◌, length, take, replicate}

-- a list with blanks behind it, up to so many places
abbrev pub padded : {A : Type 0} → ℕ → A → List A → List A
padded places blank xs = xs ++ replicate (places - length xs) blank

-- so many places are in use, and the others are blank
pub record IsPadded (A : Type 0) (places : ℕ) (blank : A) (cells : List A) (used : ℕ) : Type 0 where
  pub within : used ≤ places
  pub counted : length (take used cells) ≡ used
  pub filled : padded places blank (take used cells) ≡ cells
