use Rattle.flt_explain_parts.proofs.Adding.{behind}
use Rattle.flt_explain_forms.proofs.places.put_marks.Goals as goal

pub returns : goal.returns
returns c =
    behind c.in_ok-put_region_members.ensures.ok c.put_operand.ensures
