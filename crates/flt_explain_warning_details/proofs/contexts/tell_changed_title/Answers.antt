use Rattle.flt_explain_warning_details.specs.Contexts.{changed_title}
use Rattle.flt_explain_warning_details.proofs.contexts.tell_changed_title.Goals as goal

pub returns : goal.returns
unfolding changed_title
returns c = rw (← c.instruction.ensures, ← c.worked_on-context.ensures, ← c.context_part.ensures) c.say.ensures
