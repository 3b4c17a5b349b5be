use Rattle.flt_explain_parts.proofs.Adding.{behind}
use Rattle.flt_explain_forms.proofs.run_member.put_entry.Goals as goal

pub returns : goal.returns
returns c =
    behind c.in_ok-open_object.ensures.ok (behind c.in_ok-put_number.ensures.ok (behind c.in_ok-put_number_or_null.ensures.ok
    (behind c.in_ok-put_place.ensures.ok (behind c.in_ok-put_items.ensures.ok c.close_object.ensures))))
