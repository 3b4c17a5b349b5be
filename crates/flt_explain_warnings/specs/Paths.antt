-- Paths of a graph along a trail, and what the search along the trail means by them. This project's own definitions.
use Rattle.std.specs.Prelude.{◌≡◌, ℕ, ◌<◌, ◌≤◌, Bool, true, Some}
use Rattle.flt_graph.specs.Graph.{points_at, instruction_at}
use Rattle.flt_graph.specs.declared.graph.Graph.{Graph}
use Rattle.flt_explain_warnings.specs.Flow.{end_from}
use Rattle.flt_explain_warnings.specs.Trail.{onward, ends}
use Rattle.flt_explain_warnings.specs.declared.trail.Trail.{Trail}

-- a path along the trail from one point of a callback to another
pub data Path (g : Graph) (callback : ℕ) (t : Trail) (start : ℕ) : ℕ → Type 0 where
  -- the point itself
  here : start < points_at g callback → Path g callback t start start
  -- one step more, by an outcome by which the trail goes on
  further : {p q : ℕ} (outcome : Bool) → Path g callback t start p → onward g t (instruction_at g callback p) outcome ≡ Some q →
      q < points_at g callback → Path g callback t start q

-- what the search finds is what the trail looks for, and a path leads there
abbrev pub EndsAreOnPaths : Type 0
EndsAreOnPaths = (g : Graph) (callback : ℕ) (t : Trail) (start q : ℕ) → end_from g callback t start ≡ Some q →
    Path g callback t start q × (ends t (instruction_at g callback q) ≡ true)

-- a point that the search finds, and none after another
pub record IsFoundBy (g : Graph) (callback : ℕ) (t : Trail) (start q : ℕ) : Type 0 where
  pub found : ℕ
  pub is : end_from g callback t start ≡ Some found
  pub first : found ≤ q

-- where a path leads to what the trail looks for, the search finds it, or such a point before it
abbrev pub FirstEndsAreFound : Type 0
FirstEndsAreFound = (g : Graph) (callback : ℕ) (t : Trail) (start q : ℕ) → Path g callback t start q →
    ends t (instruction_at g callback q) ≡ true → IsFoundBy g callback t start q
