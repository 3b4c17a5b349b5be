use Rattle.std.proofs.Common.{◌<◌, arith, get_or, length}
use Rattle.flt_explain_parts.proofs.Drifts.{no_drift, read_at}
use Rattle.flt_explain_sarif.proofs.Keyed.{key_more, one_result_more}
use Rattle.flt_explain_sarif.specs.DriftResults.{drift_key, next_result}
use Rattle.flt_explain_sarif.proofs.drift_results.put_results.Goals as goal

pub loop-drift-preserved : goal.loop-drift-preserved
loop-drift-preserved c =
    let drifts = c.args.drifts.now in
    let at = c.loop-drift.drift-index in
    let key = drift_key c.args.file.now in
    let next = next_result c.args.artifact.now c.args.file.now in
    let within : at < length drifts = omega (arith, c.loop-drift-test.true) in
    let read = read_at drifts at no_drift within in
    let sofar = c.loop-drift.invariant in
    let made = c.in_ok-put_next_result.ensures in
    record {
      keys = key_more key drifts at (get_or drifts at no_drift) within read _ _ sofar.keys made.0;
      added = one_result_more key next drifts at (get_or drifts at no_drift) within read _ sofar.keys sofar.added made.1;
    }
