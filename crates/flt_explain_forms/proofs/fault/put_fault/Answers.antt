use Rattle.flt_explain_parts.proofs.Adding.{behind}
use Rattle.flt_explain_forms.proofs.fault.put_fault.Goals as goal

pub returns : goal.returns
returns c =
    let preface = rw (c.file_name.ensures, c.home_of.ensures) at c.in_ok-put_preface.ensures.ok in
    behind c.in_ok-open_object.ensures.ok (behind preface
    (behind c.in_ok-put_place.ensures.ok (behind c.in_ok-put_bytes.ensures.ok (behind c.in_ok-put_choices.ensures.ok (behind
    c.in_ok-put_bytes-2.ensures.ok (behind c.in_ok-put_text.ensures.ok (behind c.in_ok-put_filled.ensures.ok c.close_object.ensures)))))))
