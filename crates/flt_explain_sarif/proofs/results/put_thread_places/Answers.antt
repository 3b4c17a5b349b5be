use Rattle.flt_explain_parts.proofs.Adding.{behind}
use Rattle.flt_explain_sarif.proofs.results.put_thread_places.Goals as goal

pub returns : goal.returns
returns c =
    behind c.in_ok-put_flow_steps.ensures.ok c.put_finding_place.ensures
