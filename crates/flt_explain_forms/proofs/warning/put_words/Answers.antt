use Rattle.flt_explain_parts.proofs.Adding.{behind}
use Rattle.flt_explain_forms.proofs.warning.put_words.Goals as goal

pub returns : goal.returns
returns c =
    behind c.in_ok-put_kind_name.ensures.ok (behind c.in_ok-put_filled_items.ensures.ok
    (behind c.in_ok-put_items.ensures.ok (behind c.in_ok-put_items-2.ensures.ok c.put_filled_items-2.ensures)))
