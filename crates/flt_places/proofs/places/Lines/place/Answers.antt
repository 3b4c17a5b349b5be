use Rattle.std.proofs.Common.{◌∙◌}
use Rattle.flt_places.proofs.Starts.{ascending}
use Rattle.flt_places.proofs.places.Lines.place.Goals as goal

pub counted-requires-clause-ascending : goal.counted-requires-clause-ascending
counted-requires-clause-ascending c = ascending c.as_slice.result.now c.self.inside.text.now (c.as_slice.ensures ∙ c.self.invariant)
