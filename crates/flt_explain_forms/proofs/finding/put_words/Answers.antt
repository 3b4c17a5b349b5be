use Rattle.flt_explain_parts.proofs.Adding.{behind}
use Rattle.flt_explain_forms.proofs.finding.put_words.Goals as goal

pub returns : goal.returns
returns c =
    behind c.in_ok-put_text.ensures.ok (behind c.in_ok-put_text-2.ensures.ok (behind c.in_ok-put_text-3.ensures.ok
    (behind c.in_ok-put_text-4.ensures.ok c.put_filled.ensures)))
