use Rattle.std.proofs.Common.{◌≡◌, [], map, take}
use Rattle.flt_explain_parts.specs.Members.{Added}
use Rattle.flt_explain_sarif.specs.Fingerprints.{finding_key, numbered}
use Rattle.flt_explain_sarif.specs.Results.{next_result}
use Rattle.flt_explain_sarif.specs.RunFlow.{flows_in}
use Rattle.flt_explain_sarif.proofs.results.put_results.Given as goal

-- the keys so far, and the results with their fingerprints
abbrev pub invariant-loop-detail : goal.invariant-loop-detail
invariant-loop-detail l = record {
  keys : l.before ≡ map (finding_key l.file.lines) (take l.detail-index l.details);
  added :
      Added l.initial.writer l.writer
      (numbered (finding_key l.file.lines) (next_result l.file l.graph (flows_in l.runs l.source)) [] (take l.detail-index l.details));
}
