-- Where a text that parses has its points and the heads of its callbacks. This project's own program.
use Rattle.std.specs.Prelude.{ℕ, [], Option, Some, None, slice_get}
use Rattle.flt_graph.specs.Graph.{span_at}
use Rattle.flt_graph.specs.declared.graph.Graph.{Graph}
use Rattle.flt_places.specs.Places.{bytes_of, place_in}
use Rattle.flt_tree.specs.Names.{Text}
use Rattle.flt_tree.specs.declared.filter.Callback.{Callback}
use Rattle.flt_tree.specs.declared.filter.Filter.{Filter}
use Rattle.flt_tree.specs.declared.filter.Position.{Position}

-- where a point of a callback stands
abbrev pub place_of : Text → Graph → ℕ → ℕ → Position
place_of text g callback point = place_in text (span_at g callback point).start

-- the head of a callback; nothing where it isn't there
abbrev pub head_by : Text → Option Callback → Text
head_by text None = []
head_by text (Some c) = bytes_of text c.span

abbrev pub head_of : Text → Filter → ℕ → Text
head_of text f callback = head_by text (slice_get f.callbacks callback)
