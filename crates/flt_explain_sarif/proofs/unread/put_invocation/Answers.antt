use Rattle.flt_explain_parts.proofs.Adding.{behind}
use Rattle.flt_explain_sarif.proofs.unread.put_invocation.Goals as goal

pub returns : goal.returns
returns c =
    behind c.in_ok-open_object.ensures.ok (behind c.in_ok-put_success.ensures.ok
    (behind c.in_ok-put_exit_code.ensures.ok (behind c.in_ok-put_notifications.ensures.ok c.close_object.ensures)))
