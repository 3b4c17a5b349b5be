use Rattle.flt_explain_parts.proofs.Adding.{behind}
use Rattle.flt_explain_sarif.proofs.drift_results.put_result.Goals as goal

pub returns : goal.returns
returns c =
    behind c.in_ok-open_object.ensures.ok
    (behind c.in_ok-put_result_members.ensures.ok
    c.close_object.ensures)
