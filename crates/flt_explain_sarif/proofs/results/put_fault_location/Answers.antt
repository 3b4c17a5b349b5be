use Rattle.flt_explain_parts.proofs.Adding.{behind}
use Rattle.flt_explain_sarif.proofs.results.put_fault_location.Goals as goal

pub returns : goal.returns
returns c =
    behind c.in_ok-open_object.ensures.ok
    (behind c.in_ok-put_fault_physical.ensures.ok (behind c.in_ok-put_message.ensures.ok c.close_object.ensures))
