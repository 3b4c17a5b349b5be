use Rattle.flt_explain_warning_details.specs.Locks.{called_note}
use Rattle.flt_explain_warning_details.proofs.locks.tell_called_note.Goals as goal

pub returns : goal.returns
unfolding called_note
returns c = rw (← c.lock.ensures) c.say.ensures
