use Rattle.flt_explain_parts.proofs.Adding.{behind}
use Rattle.flt_explain_forms.proofs.finding.put_path.Goals as goal

pub returns : goal.returns
returns c =
    behind c.in_ok-put_key.ensures.ok
    (behind c.in_ok-open_object.ensures.ok (behind c.in_ok-put_kind.ensures.ok (behind c.in_ok-put_like.ensures.ok
    (behind c.in_ok-put_key-2.ensures.ok
    (behind c.in_ok-put_steps.ensures.ok (behind c.in_ok-put_steps_member.ensures.ok c.close_object.ensures))))))
