use Rattle.flt_explain_parts.proofs.Adding.{behind}
use Rattle.flt_explain_sarif.proofs.results.put_region.Goals as goal

pub returns : goal.returns
returns c =
    behind c.in_ok-put_key.ensures.ok
    (behind c.in_ok-open_object.ensures.ok
    (behind c.in_ok-put_number.ensures.ok
    (behind c.in_ok-put_number-2.ensures.ok
    (behind c.in_ok-put_number-3.ensures.ok
    (behind c.in_ok-put_number-4.ensures.ok
    c.close_object.ensures)))))
