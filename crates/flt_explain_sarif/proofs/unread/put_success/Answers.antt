use Rattle.flt_explain_parts.proofs.Adding.{behind}
use Rattle.flt_explain_sarif.proofs.unread.put_success.Goals as goal

pub returns : goal.returns
returns c =
    behind c.in_ok-put_key.ensures.ok c.put_is_successful.ensures
