use Rattle.flt_explain_parts.proofs.Adding.{behind}
use Rattle.flt_explain_sarif.proofs.warning_results.put_suppression.Goals as goal

pub returns : goal.returns
returns c =
    behind c.in_ok-open_object.ensures.ok
    (behind c.in_ok-put_string.ensures.ok (behind c.in_ok-put_items.ensures.ok c.close_object.ensures))
