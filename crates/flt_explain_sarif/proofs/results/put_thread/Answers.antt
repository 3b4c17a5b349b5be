use Rattle.flt_explain_parts.proofs.Adding.{behind}
use Rattle.flt_explain_sarif.proofs.results.put_thread.Goals as goal

pub returns : goal.returns
returns c =
    behind c.in_ok-open_object.ensures.ok (behind c.in_ok-put_thread_locations.ensures.ok c.close_object.ensures)
