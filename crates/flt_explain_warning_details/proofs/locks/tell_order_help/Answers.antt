use Rattle.flt_explain_warning_details.specs.Locks.{order_help}
use Rattle.flt_explain_warning_details.proofs.locks.tell_order_help.Goals as goal

pub returns : goal.returns
unfolding order_help
returns c = rw (← c.lock.ensures) c.say.ensures
