use Rattle.flt_explain_parts.proofs.Adding.{behind}
use Rattle.flt_explain_forms.proofs.run_member.put_run.Goals as goal

pub returns : goal.returns
returns c =
    behind c.in_ok-put_key.ensures.ok (behind c.in_ok-open_object.ensures.ok (behind c.in_ok-put_breaks.ensures.ok
    (behind c.in_ok-put_activations.ensures.ok (behind c.in_ok-put_entries.ensures.ok c.close_object.ensures))))
