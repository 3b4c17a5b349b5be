use Rattle.flt_explain_advice.specs.Advice.Places.{not_allowed}
use Rattle.flt_explain_advice.proofs.advice.places.tell_not_allowed.Goals as goal

pub returns : goal.returns
unfolding not_allowed
returns c = rw (← c.head.ensures) c.say.ensures
