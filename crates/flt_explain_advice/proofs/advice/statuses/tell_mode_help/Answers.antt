use Rattle.flt_explain_advice.specs.Advice.Statuses.{mode_help}
use Rattle.flt_explain_advice.proofs.advice.statuses.tell_mode_help.Goals as goal

pub returns : goal.returns
unfolding mode_help
returns c = rw (← c.word.ensures) c.say.ensures
