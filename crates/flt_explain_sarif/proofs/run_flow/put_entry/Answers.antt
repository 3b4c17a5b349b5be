use Rattle.flt_explain_parts.proofs.Adding.{behind}
use Rattle.flt_explain_sarif.proofs.run_flow.put_entry.Goals as goal

pub returns : goal.returns
returns c =
    behind c.in_ok-open_object.ensures.ok (behind c.in_ok-put_location.ensures.ok
    (behind c.in_ok-put_number.ensures.ok c.close_object.ensures))
