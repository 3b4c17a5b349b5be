use Rattle.flt_explain_warning_details.specs.Unused.{routine_help}
use Rattle.flt_explain_warning_details.proofs.unused.tell_routine_help.Goals as goal

pub returns : goal.returns
unfolding routine_help
returns c = rw (← c.queueing.ensures) c.say.ensures
