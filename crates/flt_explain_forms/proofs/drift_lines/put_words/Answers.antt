use Rattle.flt_explain_parts.proofs.Adding.{behind}
use Rattle.flt_explain_forms.proofs.drift_lines.put_words.Goals as goal

pub returns : goal.returns
returns c =
    behind c.in_ok-put_code.ensures.ok
    (behind (rw c.in_ok-sentence.ensures at c.in_ok-put_text.ensures.ok)
    c.put_drift_help.ensures)
