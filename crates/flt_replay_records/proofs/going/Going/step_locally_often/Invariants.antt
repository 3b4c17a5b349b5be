use Rattle.std.proofs.Common.{◌≡◌, ◌-◌}
use Rattle.flt_replay_records.specs.Local.{local_steps}
use Rattle.flt_replay_records.proofs.going.Going.step_locally_often.Given as goal

abbrev pub invariant-loop : goal.invariant-loop
invariant-loop l = local_steps l.draining (l.steps - l.counter) l.self ≡ local_steps l.draining l.steps l.fn.self
