use Rattle.flt_explain_parts.proofs.Adding.{behind}
use Rattle.flt_explain_sarif.proofs.unread.put_places.Goals as goal

pub returns : goal.returns
returns c =
    let place = rw (c.in_ok-name.ensures, c.as_str.ensures.value) at c.in_ok-put_place.ensures.ok in
    behind c.in_ok-put_key.ensures.ok (behind c.in_ok-open_array.ensures.ok (behind place c.close_array.ensures))
