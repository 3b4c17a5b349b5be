use Rattle.std.proofs.Common.{take}
use Rattle.flt_explain_warning_details.specs.Indexed.{ArePlaces}
use Rattle.flt_explain_warning_details.proofs.indexed.places_of.Given as goal

abbrev pub invariant-loop-place : goal.invariant-loop-place
invariant-loop-place l = ArePlaces l.places (take l.place l.comments)
