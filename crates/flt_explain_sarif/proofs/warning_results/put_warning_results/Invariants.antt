use Rattle.std.proofs.Common.{◌≡◌, [], map, take}
use Rattle.flt_explain_parts.specs.Members.{Added}
use Rattle.flt_explain_sarif.specs.Fingerprints.{warning_key, numbered}
use Rattle.flt_explain_sarif.specs.WarningResults.{next_result}
use Rattle.flt_explain_sarif.proofs.warning_results.put_warning_results.Given as goal

-- the keys so far, and the results with their fingerprints
abbrev pub invariant-loop-detail : goal.invariant-loop-detail
invariant-loop-detail l = record {
  keys : l.before ≡ map (warning_key l.file.lines) (take l.detail-index l.warned);
  added : Added l.initial.writer l.writer (numbered (warning_key l.file.lines) (next_result l.file) [] (take l.detail-index l.warned));
}
