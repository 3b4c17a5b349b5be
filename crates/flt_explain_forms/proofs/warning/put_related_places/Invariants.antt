use Rattle.std.proofs.Common.{flat_map, take}
use Rattle.flt_explain_parts.specs.Members.{Added}
use Rattle.flt_explain_forms.specs.Warning.{related_place}
use Rattle.flt_explain_forms.proofs.warning.put_related_places.Given as goal

abbrev pub invariant-loop-place : goal.invariant-loop-place
invariant-loop-place l = Added l.initial.writer l.writer (flat_map (related_place l.files l.home) (take l.place-index l.places))
