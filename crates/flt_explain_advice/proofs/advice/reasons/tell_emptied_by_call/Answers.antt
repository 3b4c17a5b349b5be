use Rattle.flt_explain_advice.specs.Advice.Reasons.{emptied_by_call}
use Rattle.flt_explain_advice.proofs.advice.reasons.tell_emptied_by_call.Goals as goal

pub returns : goal.returns
unfolding emptied_by_call
returns c = rw (← c.subject.ensures, ← c.call_name.ensures, ← c.line.ensures, ← c.emptying_outcome.ensures) c.say.ensures
