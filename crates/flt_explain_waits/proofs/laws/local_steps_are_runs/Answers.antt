use Rattle.flt_explain_waits.proofs.LocalRuns.{settled_run}
use Rattle.flt_explain_waits.proofs.laws.local_steps_are_runs.Goals as goal

pub returns : goal.returns
returns c p m n u settled = settled_run p c.local_steps_are_quiet.ensures.events m.trace n m.world u settled
