use Rattle.flt_explain_parts.proofs.Adding.{behind}
use Rattle.flt_explain_sarif.proofs.warning_results.put_property_members.Goals as goal

pub returns : goal.returns
returns c =
    behind c.in_ok-put_site.ensures.ok (behind c.in_ok-put_items.ensures.ok c.put_filled_items.ensures)
