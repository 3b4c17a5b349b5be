use Rattle.std.proofs.Common.{arith}
use Rattle.flt_explain_parts.proofs.Adding.{one_more}
use Rattle.flt_explain_sarif.specs.DriftResults.{file_results}
use Rattle.flt_explain_sarif.proofs.drift_results.put_drift_results.Goals as goal

pub loop-file-preserved : goal.loop-file-preserved
loop-file-preserved c =
    one_more (file_results c.args.names.now) c.args.drifted.now c.loop-file.file-index c.file-item.result
    (omega (arith, c.loop-file-test.true)) c.file-item.is c.loop-file.invariant c.in_ok-put_file.ensures.ok
