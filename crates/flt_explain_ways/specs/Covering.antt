-- Which findings are reported by themselves, and that each other one is like one of these. This project's own definitions.
use Rattle.std.specs.Prelude.{◌≡◌, ℕ, ◌<◌, ◌≤◌, ◌==◌, ◌&&◌, Bool, true, List, [], ◌∷◌, Some, All, length, slice_get, ⊤}
use Rattle.flt_rules.specs.Rule.{number}
use Rattle.flt_explain.specs.Subjects.{place}
use Rattle.flt_explain.specs.declared.finding.Finding.{Finding}

-- whether two findings are of one callback, rule and subject
abbrev pub is_akin : Finding → Finding → Bool
is_akin a b = (a.callback == b.callback) && ((number a.rule == number b.rule) && (place a.subject == place b.subject))

-- among some numbers of findings is that of one which is akin to another one, and doesn't stand behind it: it may be this itself
pub record IsCovered (found : List Finding) (numbers : List ℕ) (own : ℕ) (f : Finding) : Type 0 where
  pub position : ℕ
  pub first : ℕ
  pub is_first : slice_get numbers position ≡ Some first
  pub before : first ≤ own
  pub one : Finding
  pub is_one : slice_get found first ≡ Some one
  pub akin : is_akin one f ≡ true

-- each finding has one among them
abbrev pub Covers : List Finding → List ℕ → Type 0
Covers found numbers = (own : ℕ) (f : Finding) → slice_get found own ≡ Some f → IsCovered found numbers own f

-- each number is below all behind it
abbrev pub Rises : List ℕ → Type 0
Rises [] = ⊤
Rises (n ∷ ns) = All (λ m. n < m) ns × Rises ns

-- the numbers of findings that are reported by themselves, in their order; each other one is akin to one of them
pub record AreFirsts (found : List Finding) (numbers : List ℕ) : Type 0 where
  pub rise : Rises numbers
  pub within : All (λ n. n < length found) numbers
  pub covers : Covers found numbers
