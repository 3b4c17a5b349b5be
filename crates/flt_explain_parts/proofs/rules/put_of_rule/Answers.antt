use Rattle.flt_explain_parts.proofs.Adding.{behind}
use Rattle.flt_explain_parts.proofs.rules.put_of_rule.Goals as goal

pub returns : goal.returns
returns c =
    behind c.in_ok-put_id.ensures.ok c.put_index.ensures
