use Rattle.flt_explain_parts.proofs.Adding.{behind}
use Rattle.flt_explain_forms.proofs.steps.put_maker.Goals as goal

pub returns : goal.returns
returns c =
    behind c.in_ok-open_object.ensures.ok (behind c.in_ok-put_number.ensures.ok (behind c.in_ok-put_marks.ensures.ok
    (behind c.in_ok-put_side.ensures.ok (behind c.in_ok-put_filled.ensures.ok c.close_object.ensures))))
