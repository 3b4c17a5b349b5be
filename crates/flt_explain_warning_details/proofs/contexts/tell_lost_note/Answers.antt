use Rattle.flt_explain_warning_details.specs.Contexts.{lost_note}
use Rattle.flt_explain_warning_details.proofs.contexts.tell_lost_note.Goals as goal

pub returns : goal.returns
unfolding lost_note
returns c = rw (← c.instruction.ensures, ← c.worked_on.ensures, ← c.context_part.ensures) c.say.ensures
