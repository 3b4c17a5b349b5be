use Rattle.flt_explain_parts.proofs.Adding.{behind}
use Rattle.flt_explain_forms.proofs.drift_lines.put_drift.Goals as goal

pub returns : goal.returns
returns c =
    behind c.in_ok-open_object.ensures.ok
    (behind c.in_ok-put_preface.ensures.ok
    (behind c.in_ok-put_drift_level.ensures.ok
    (behind c.in_ok-put_region.ensures.ok
    (behind c.in_ok-put_words.ensures.ok
    c.close_object.ensures))))
