use Rattle.std.proofs.Common.{◌≡◌, [], map, take}
use Rattle.flt_explain_parts.specs.Members.{Added}
use Rattle.flt_explain_sarif.specs.DriftResults.{drift_key, next_result}
use Rattle.flt_explain_sarif.specs.Fingerprints.{numbered}
use Rattle.flt_explain_sarif.proofs.drift_results.put_results.Given as goal

-- the keys so far, and the results with their fingerprints
abbrev pub invariant-loop-drift : goal.invariant-loop-drift
invariant-loop-drift l = record {
  keys : l.before ≡ map (drift_key l.file) (take l.drift-index l.drifts);
  added : Added l.initial.writer l.writer (numbered (drift_key l.file) (next_result l.artifact l.file) [] (take l.drift-index l.drifts));
}
