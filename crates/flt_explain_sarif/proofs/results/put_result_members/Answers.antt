use Rattle.flt_explain_parts.proofs.Adding.{behind}
use Rattle.flt_explain_sarif.proofs.results.put_result_members.Goals as goal

pub returns : goal.returns
returns c =
    behind c.in_ok-put_of_rule.ensures.ok (behind c.in_ok-put_level.ensures.ok (behind c.in_ok-put_message.ensures.ok
    (behind c.in_ok-put_marked_locations.ensures.ok (behind c.in_ok-put_related.ensures.ok (behind c.in_ok-put_flows.ensures.ok
    (behind c.in_ok-put_fingerprints.ensures.ok (behind c.in_ok-put_properties.ensures.ok c.put_not_suppressed.ensures)))))))
