use Rattle.flt_model.proofs.LockLaws.{opening_excludes, steps_exclude}
use Rattle.flt_model.proofs.laws.locks_stay_exclusive.Goals as goal

pub returns : goal.returns
returns c = record { opening = opening_excludes; steps = steps_exclude }
