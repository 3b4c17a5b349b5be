use Rattle.flt_explain_parts.proofs.Adding.{behind}
use Rattle.flt_explain_sarif.proofs.unread.put_notification.Goals as goal

pub returns : goal.returns
returns c =
    behind c.in_ok-open_object.ensures.ok
    (behind c.in_ok-put_level.ensures.ok (behind c.in_ok-put_why.ensures.ok (behind c.in_ok-put_places.ensures.ok c.close_object.ensures)))
