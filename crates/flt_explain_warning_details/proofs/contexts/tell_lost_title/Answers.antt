use Rattle.flt_explain_warning_details.specs.Contexts.{lost_title}
use Rattle.flt_explain_warning_details.proofs.contexts.tell_lost_title.Goals as goal

pub returns : goal.returns
unfolding lost_title
returns c = rw (← c.instruction-instruction.ensures, ← c.worked_on.ensures, ← c.context_part.ensures, ← c.called.ensures) c.say.ensures
