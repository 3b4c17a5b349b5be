use Rattle.flt_explain_parts.proofs.Adding.{behind}
use Rattle.flt_explain_sarif.proofs.warning_results.put_result.Goals as goal

pub returns : goal.returns
returns c =
    let members = rw (c.in_ok-title.ensures, c.in_ok-head.ensures) at c.in_ok-put_result_members.ensures.ok in
    behind c.in_ok-open_object.ensures.ok (behind members c.close_object.ensures)
