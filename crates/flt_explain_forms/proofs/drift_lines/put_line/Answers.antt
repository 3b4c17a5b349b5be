use Rattle.flt_explain_parts.proofs.Adding.{written}
use Rattle.flt_explain_forms.proofs.drift_lines.put_line.Goals as goal

pub returns : goal.returns
returns c =
    written _ _ _ _ c.new-writer.ensures.before c.new-writer.ensures.tokens c.in_ok-put_drift.ensures.ok c.into_inner-out.ensures.items
    c.in_ok-push.ensures.items
