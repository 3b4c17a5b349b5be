use Rattle.flt_explain_advice.specs.Advice.Levels.{lock_help}
use Rattle.flt_explain_advice.proofs.advice.levels.tell_lock.Goals as goal

pub returns : goal.returns
unfolding lock_help
returns c = rw (← c.lock_name.ensures, ← c.kind_name.ensures, ← c.raised_by.ensures, ← c.level_name.ensures) c.say.ensures
