use Rattle.flt_explain_parts.proofs.Adding.{behind}
use Rattle.flt_explain_parts.proofs.rules.put_page.Goals as goal

pub returns : goal.returns
returns c =
    behind c.in_ok-put_key.ensures.ok (behind c.in_ok-open_object.ensures.ok
    (behind c.in_ok-put_string.ensures.ok (behind c.in_ok-put_string-2.ensures.ok c.close_object.ensures)))
