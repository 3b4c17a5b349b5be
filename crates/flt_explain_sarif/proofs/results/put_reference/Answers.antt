use Rattle.flt_explain_parts.proofs.Adding.{behind}
use Rattle.flt_explain_sarif.proofs.results.put_reference.Goals as goal

pub returns : goal.returns
returns c =
    behind c.in_ok-put_items.ensures.ok c.put_base.ensures
