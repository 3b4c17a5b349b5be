use Rattle.flt_explain_warning_details.specs.Locks.{order_title}
use Rattle.flt_explain_warning_details.proofs.locks.tell_order_title.Goals as goal

pub returns : goal.returns
unfolding order_title
returns c = rw (← c.lock.ensures, ← c.lock-2.ensures) c.say.ensures
