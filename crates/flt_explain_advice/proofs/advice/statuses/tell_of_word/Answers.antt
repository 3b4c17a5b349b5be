use Rattle.flt_explain_advice.specs.Advice.Statuses.{of_word}
use Rattle.flt_explain_advice.proofs.advice.statuses.tell_of_word.Goals as goal

pub returns : goal.returns
unfolding of_word
returns c = rw (← c.word.ensures) c.say.ensures
