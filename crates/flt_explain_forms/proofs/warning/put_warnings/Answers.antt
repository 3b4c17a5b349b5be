use Rattle.std.proofs.Common.{arith}
use Rattle.flt_explain_parts.proofs.Adding.{one_line_more}
use Rattle.flt_explain_forms.specs.Warning.{warning_line}
use Rattle.flt_explain_forms.proofs.warning.put_warnings.Goals as goal

pub loop-detail-preserved : goal.loop-detail-preserved
loop-detail-preserved c =
    one_line_more (warning_line c.args.files.now) c.args.warned.now c.loop-detail.detail-index c.detail-item.result _ _ _
    (omega (arith, c.loop-detail-test.true)) c.detail-item.is c.loop-detail.invariant c.in_ok-out.ensures
