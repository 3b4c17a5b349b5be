use Rattle.std.proofs.Common.{flat_map, take}
use Rattle.flt_explain_parts.specs.Members.{Added}
use Rattle.flt_explain_sarif.specs.DriftResults.{file_results}
use Rattle.flt_explain_sarif.proofs.drift_results.put_drift_results.Given as goal

abbrev pub invariant-loop-file : goal.invariant-loop-file
invariant-loop-file l = Added l.initial.writer l.writer (flat_map (file_results l.names) (take l.file-index l.drifted))
