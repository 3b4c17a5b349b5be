use Rattle.flt_explain_parts.proofs.Adding.{behind}
use Rattle.flt_explain_sarif.proofs.drift_results.put_physical.Goals as goal

pub returns : goal.returns
returns c =
    behind c.in_ok-put_key.ensures.ok
    (behind c.in_ok-open_object.ensures.ok
    (behind c.in_ok-put_whole_artifact.ensures.ok
    (behind c.in_ok-put_region.ensures.ok
    c.close_object.ensures)))
