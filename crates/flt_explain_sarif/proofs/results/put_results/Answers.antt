use Rattle.std.proofs.Common.{arith}
use Rattle.flt_explain_sarif.specs.Fingerprints.{finding_key}
use Rattle.flt_explain_sarif.specs.Results.{next_result}
use Rattle.flt_explain_sarif.specs.RunFlow.{flows_in}
use Rattle.flt_explain_sarif.proofs.Keyed.{key_more, one_result_more}
use Rattle.flt_explain_sarif.proofs.results.put_results.Goals as goal

pub loop-detail-preserved : goal.loop-detail-preserved
loop-detail-preserved c = record {
  keys =
      key_more (finding_key c.args.file.now.lines) c.args.details.now c.loop-detail.detail-index c.detail-item.result
      (omega (arith, c.loop-detail-test.true)) c.detail-item.is _ _ c.loop-detail.invariant.keys c.in_ok-put_next_result.ensures.0;
  added =
      one_result_more (finding_key c.args.file.now.lines)
      (next_result c.args.file.now c.args.graph.now (flows_in c.args.runs c.args.source))
      c.args.details.now c.loop-detail.detail-index c.detail-item.result
      (omega (arith, c.loop-detail-test.true)) c.detail-item.is _ c.loop-detail.invariant.keys c.loop-detail.invariant.added
      c.in_ok-put_next_result.ensures.1;
}
