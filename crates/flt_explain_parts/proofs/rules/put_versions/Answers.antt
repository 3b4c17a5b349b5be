use Rattle.flt_explain_parts.proofs.Adding.{behind}
use Rattle.flt_explain_parts.proofs.rules.put_versions.Goals as goal

pub returns : goal.returns
returns c =
    behind c.in_ok-put_string.ensures.ok (behind c.in_ok-put_string-2.ensures.ok c.put_string-3.ensures)
