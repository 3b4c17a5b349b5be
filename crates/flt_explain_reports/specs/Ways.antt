-- The branches of a path, in lines. This project's own program.
use Rattle.std.specs.Prelude.{ℕ, List, [], ◌∷◌, ◌++◌, Option, Some, None, codes, flat_map}
use Rattle.flt_graph.specs.Graph.{line_at}
use Rattle.flt_graph.specs.declared.graph.Graph.{Graph}
use Rattle.flt_tree.specs.Names.{Text}
use Rattle.flt_explain_origins.specs.declared.answer.Step.{Step}
use Rattle.flt_explain_origins.specs.declared.answer.Way.{Way}
use Rattle.flt_explain_advice.specs.Branches.{branch_at, step_outcome}
use Rattle.flt_explain_texts.specs.Page.{line_told}
use Rattle.flt_places.specs.declared.files.Files.{Files}
use Rattle.flt_explain_reports.specs.Indents.{headed}

-- the line of a statement, what it asks, and how that comes out
unfoldable pub branch_line : Files → ℕ → Text → Graph → ℕ → ℕ → Text → Text
branch_line files home text g callback point outcome =
    line_told files home (line_at g callback point) ++ (codes ": " ++ (branch_at text g callback point outcome ++ 10 ∷ []))

-- the line of a step; none where nothing is asked there
abbrev pub lines_by : Files → ℕ → Text → Graph → ℕ → ℕ → Option Text → List Text
lines_by files home text g callback point None = []
lines_by files home text g callback point (Some outcome) = branch_line files home text g callback point outcome ∷ []

-- the lines of some steps
abbrev pub branch_lines : Files → ℕ → Text → Graph → ℕ → List Step → List Text
branch_lines files home text g callback = flat_map (λ (s : Step). lines_by files home text g callback s.point (step_outcome g callback s))

-- the branches of a path behind a word for it; nothing where there is no path
unfoldable pub path_lines : Files → ℕ → Text → Graph → ℕ → Text → Option Way → Text
path_lines files home text g callback word None = []
path_lines files home text g callback word (Some w) = headed word (branch_lines files home text g callback w.steps)
