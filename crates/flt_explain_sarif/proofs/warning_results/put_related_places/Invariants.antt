use Rattle.std.proofs.Common.{flat_map, take}
use Rattle.flt_explain_parts.specs.Members.{Added}
use Rattle.flt_explain_sarif.specs.WarningResults.{related_place}
use Rattle.flt_explain_sarif.proofs.warning_results.put_related_places.Given as goal

abbrev pub invariant-loop-place : goal.invariant-loop-place
invariant-loop-place l = Added l.initial.writer l.writer (flat_map (related_place l.file) (take l.place-index l.places))
