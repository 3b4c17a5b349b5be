use Rattle.flt_explain_advice.specs.Advice.Statuses.{pairing_help}
use Rattle.flt_explain_advice.proofs.advice.statuses.tell_pairing.Goals as goal

pub returns : goal.returns
unfolding pairing_help
returns c = rw (← c.name.ensures) c.texts.ensures
