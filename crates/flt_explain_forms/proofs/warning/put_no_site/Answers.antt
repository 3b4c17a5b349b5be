use Rattle.flt_explain_parts.proofs.Adding.{behind}
use Rattle.flt_explain_forms.proofs.warning.put_no_site.Goals as goal

pub returns : goal.returns
returns c =
    behind c.in_ok-put_null.ensures.ok c.put_null-2.ensures
