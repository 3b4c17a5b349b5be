use Rattle.flt_explain_advice.specs.Advice.Statuses.{not_legal}
use Rattle.flt_explain_advice.proofs.advice.statuses.tell_not_legal.Goals as goal

pub returns : goal.returns
unfolding not_legal
returns c = rw (← c.word.ensures, ← c.head.ensures) c.say.ensures
