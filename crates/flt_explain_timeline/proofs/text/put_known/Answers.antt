use Rattle.flt_explain_timeline.proofs.Texts.{puts_after}
use Rattle.flt_explain_timeline.proofs.text.put_known.Goals as goal

pub returns : goal.returns
returns c = puts_after c.put_refusal.result _ _ _ _ _ c.in_ok-push_str.ensures.bytes c.put_refusal.ensures
