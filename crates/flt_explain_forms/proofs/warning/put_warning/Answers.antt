use Rattle.flt_explain_parts.proofs.Adding.{behind}
use Rattle.flt_explain_forms.proofs.warning.put_warning.Goals as goal

pub returns : goal.returns
returns c =
    let preface = rw c.file_name.ensures at c.in_ok-put_preface.ensures.ok in
    behind c.in_ok-open_object.ensures.ok
    (behind preface (behind c.in_ok-put_place.ensures.ok (behind c.in_ok-put_words.ensures.ok
    (behind c.in_ok-put_related.ensures.ok (behind c.in_ok-put_suppressed.ensures.ok c.close_object.ensures)))))
