use Rattle.std.proofs.Common.{◌<◌, [], arith, get_or, length}
use Rattle.flt_explain_parts.proofs.Adding.{one_line_more}
use Rattle.flt_explain_parts.proofs.Drifts.{no_drift, read_at}
use Rattle.flt_explain_forms.specs.DriftLines.{drift_line}
use Rattle.flt_explain_forms.proofs.drift_lines.lines_of.Goals as goal

pub loop-drift-preserved : goal.loop-drift-preserved
loop-drift-preserved c =
    let drifts = c.args.drifts.now in
    let at = c.loop-drift.drift-index in
    let within : at < length drifts = omega (arith, c.loop-drift-test.true) in
    one_line_more (drift_line c.args.name.now c.args.file.now) drifts at (get_or drifts at no_drift) [] _ _ within
    (read_at drifts at no_drift within) c.loop-drift.invariant
    (rw (c.region_of-region.ensures, c.in_ok-lines.ensures) at c.in_ok-out.ensures)
