use Rattle.flt_explain_parts.proofs.Adding.{behind}
use Rattle.flt_explain_sarif.proofs.unread.put_why.Goals as goal

pub returns : goal.returns
returns c =
    let words = rw c.as_str.ensures.value at c.in_ok-put_string.ensures.ok in
    behind c.in_ok-put_key.ensures.ok (behind c.in_ok-open_object.ensures.ok (behind words c.close_object.ensures))
