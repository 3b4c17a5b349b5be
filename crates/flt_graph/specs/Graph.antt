-- What a graph holds at a number of a callback and of a point. What isn't there is a callback without points, and the
-- end of a body.
use Rattle.std.specs.Prelude.{ℕ, [], length, slice_index_or}
use Rattle.flt_rules.specs.declared.place.Place.{Place}
use Rattle.flt_rules.specs.declared.place.Place.TheVariants as place
use Rattle.flt_tree.specs.Filter.{no_span}
use Rattle.flt_tree.specs.declared.filter.Span.{Span}
use Rattle.flt_graph.specs.declared.graph.CallbackGraph.{CallbackGraph}
use Rattle.flt_graph.specs.declared.graph.Graph.{Graph}
use Rattle.flt_graph.specs.declared.graph.Point.{Point}
use Rattle.flt_graph.specs.declared.instruction.Instruction.{Instruction}
use Rattle.flt_graph.specs.declared.instruction.Instruction.TheVariants as instruction

abbrev pub no_callback : CallbackGraph
no_callback = record { place = place.Generic; points = [] }

abbrev pub no_point : Point
no_point = record { span = no_span; instruction = instruction.End }

abbrev pub callback_at : Graph → ℕ → CallbackGraph
callback_at g callback = slice_index_or g.callbacks callback no_callback

abbrev pub place_at : Graph → ℕ → Place
place_at g callback = (callback_at g callback).place

-- how many points the callback of a number has
abbrev pub points_at : Graph → ℕ → ℕ
points_at g callback = length (callback_at g callback).points

-- the point of a callback at a number
abbrev pub point_in : CallbackGraph → ℕ → Point
point_in g point = slice_index_or g.points point no_point

abbrev pub point_at : Graph → ℕ → ℕ → Point
point_at g callback point = point_in (callback_at g callback) point

abbrev pub line_at : Graph → ℕ → ℕ → ℕ
line_at g callback point = (point_at g callback point).span.line

abbrev pub span_at : Graph → ℕ → ℕ → Span
span_at g callback point = (point_at g callback point).span

abbrev pub instruction_at : Graph → ℕ → ℕ → Instruction
instruction_at g callback point = (point_at g callback point).instruction
