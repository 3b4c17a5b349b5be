use Rattle.flt_explain_parts.proofs.Adding.{behind}
use Rattle.flt_explain_forms.proofs.run_member.put_activations.Goals as goal

pub returns : goal.returns
returns c =
    behind c.in_ok-put_key.ensures.ok (behind c.in_ok-open_array.ensures.ok
    (behind c.in_ok-put_each_activation.ensures.ok c.close_array.ensures))
