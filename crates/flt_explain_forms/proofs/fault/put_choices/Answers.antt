use Rattle.flt_explain_parts.proofs.Adding.{behind}
use Rattle.flt_explain_forms.proofs.fault.put_choices.Goals as goal

pub returns : goal.returns
returns c =
    behind c.in_ok-put_expected.ensures.ok c.put_names.ensures
