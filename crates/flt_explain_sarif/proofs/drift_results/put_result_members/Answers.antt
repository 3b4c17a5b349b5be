use Rattle.flt_explain_parts.proofs.Adding.{behind}
use Rattle.flt_explain_sarif.proofs.drift_results.put_result_members.Goals as goal

pub returns : goal.returns
returns c =
    behind c.in_ok-put_of_rule.ensures.ok
    (behind c.in_ok-put_drift_level.ensures.ok
    (behind c.in_ok-put_message.ensures.ok
    (behind c.in_ok-put_locations.ensures.ok
    (behind c.in_ok-put_prints.ensures.ok
    (behind c.in_ok-put_properties.ensures.ok
    c.put_not_suppressed.ensures)))))
