use Rattle.flt_explain_warning_details.specs.Contexts.{lost_words}
use Rattle.flt_explain_warning_details.proofs.contexts.tell_lost_use.Goals as goal

pub returns : goal.returns
unfolding lost_words
returns c = rw (← c.context_part.ensures) c.say.ensures
