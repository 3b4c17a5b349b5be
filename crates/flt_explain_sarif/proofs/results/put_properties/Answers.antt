use Rattle.flt_explain_parts.proofs.Adding.{behind}
use Rattle.flt_explain_sarif.proofs.results.put_properties.Goals as goal

pub returns : goal.returns
returns c =
    behind c.in_ok-put_key.ensures.ok (behind c.in_ok-open_object.ensures.ok
    (behind c.in_ok-put_number.ensures.ok (behind c.in_ok-put_number-2.ensures.ok (behind c.in_ok-put_text.ensures.ok
    (behind c.in_ok-put_filled.ensures.ok c.close_object.ensures)))))
