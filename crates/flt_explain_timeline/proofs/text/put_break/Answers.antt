use Rattle.flt_explain_timeline.proofs.Texts.{puts_after}
use Rattle.flt_explain_timeline.proofs.text.put_break.Goals as goal

pub returns : goal.returns
returns c = puts_after c.put_violation.result _ _ _ _ _ c.in_ok-push_str.ensures.bytes c.put_violation.ensures
