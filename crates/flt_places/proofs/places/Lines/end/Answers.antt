use Rattle.std.proofs.Common.{◌∙◌}
use Rattle.flt_places.proofs.Starts.{ascending}
use Rattle.flt_places.proofs.places.Lines.end.Goals as goal

pub counted-place-requires-clause-ascending : goal.counted-place-requires-clause-ascending
counted-place-requires-clause-ascending c = ascending c.as_slice.result.now c.self.inside.text.now (c.as_slice.ensures ∙ c.self.invariant)
