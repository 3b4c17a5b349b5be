-- Where the points of a callback are.
use Rattle.std.specs.Prelude.{ℕ}
use Rattle.flt_graph.specs.Graph.{span_at}
use Rattle.flt_graph.specs.declared.graph.Graph.{Graph}
use Rattle.flt_places.specs.Places.{region_of}
use Rattle.flt_places.specs.declared.places.Region.{Region}
use Rattle.flt_tree.specs.Names.{Text}
use Rattle.flt_explain_parts.specs.declared.points.Points.{Points}

-- where the statement of a point is; of an `if` what it asks
abbrev pub region_at : Text → Graph → ℕ → ℕ → Region
region_at text graph callback point = region_of text (span_at graph callback point)

abbrev pub regions : Points → ℕ → Region
regions p point = region_at p.lines.now p.graph.now p.callback point
