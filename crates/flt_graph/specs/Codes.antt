-- The points of a block one after another, as a body that adds them statement by statement leaves them: what `add_block`
-- adds. That these are the points that the text asks for is a theorem (`IsGraphOf`).
use Rattle.std.specs.Prelude.{ℕ, ◌+◌, List, [], ◌∷◌, ◌++◌, map}
use Rattle.flt_tree.specs.Measures.{points_of, points}
use Rattle.flt_tree.specs.declared.filter.Callback.{Callback}
use Rattle.flt_tree.specs.declared.filter.Statement.{Statement}
use Rattle.flt_tree.specs.declared.filter.Statement.TheFolds.{map-Statement, para-Statement}
use Rattle.flt_tree.specs.declared.filter.Statement.TheOpen.{Statement-F}
use Rattle.flt_graph.specs.Points.{entry, point_of}
use Rattle.flt_graph.specs.declared.graph.Point.{Point}

-- points by the number of the first and the number of what follows them
abbrev pub Code : Type 0
Code = ℕ → ℕ → List Point

-- the points of statements one behind the other, each with its own points
abbrev pub codes : List (Statement × Code) → Code
codes [] at after = []
codes (x ∷ rest) at after =
    x.1 at (entry rest (at + points_of x.0) after) ++ codes rest (at + points_of x.0) after

-- the points of a statement's blocks, which stand behind its own
abbrev pub codes_in : Statement-F (Statement × Code) → Code
codes_in (Statement-F.Act span action) at after = []
codes_in (Statement-F.Call span call) at after = []
codes_in (Statement-F.Return span status) at after = []
codes_in (Statement-F.If span asked granted refused) at after =
    codes granted (at + 1) after ++ codes refused (at + 1 + points (map (λ (x : Statement × Code). x.0) granted)) after
codes_in (Statement-F.Repeat span turns block) at after = codes block (at + 1) at

-- a statement's own point, and those of its blocks
abbrev pub code_step : List Callback → Statement-F (Statement × Code) → Code
code_step all s at after =
    point_of all (map-Statement (Statement × Code) Statement (λ x. x.0) s) at after ∷ codes_in s at after

-- the points of a statement and its blocks
unfoldable pub statement_code : List Callback → Statement → Code
statement_code all = para-Statement Code (code_step all)

-- the points of a block
unfoldable pub block_code : List Callback → List Statement → Code
block_code all block = codes (map (λ (s : Statement). (s, statement_code all s)) block)
