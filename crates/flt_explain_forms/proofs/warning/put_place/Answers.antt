use Rattle.flt_explain_parts.proofs.Adding.{behind}
use Rattle.flt_explain_forms.proofs.warning.put_place.Goals as goal

pub returns : goal.returns
returns c =
    behind c.in_ok-put_warning_level.ensures.ok (behind c.in_ok-put_site.ensures.ok c.put_marks.ensures)
