use Rattle.flt_explain_parts.proofs.Adding.{behind}
use Rattle.flt_explain_forms.proofs.run_member.put_breaks.Goals as goal

pub returns : goal.returns
returns c =
    let violation = rw c.name.ensures at c.in_ok-put_string.ensures.ok in
    behind c.in_ok-put_key.ensures.ok (behind c.in_ok-open_object.ensures.ok (behind violation
    (behind c.in_ok-put_number.ensures.ok c.close_object.ensures)))
