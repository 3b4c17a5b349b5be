use Rattle.std.proofs.Common.{◌≡◌, ◌≤◌, ◌-◌, length, drop}
use Rattle.flt_model.specs.Moves.{has_active}
use Rattle.flt_replay_steps.proofs.teardown.has_active.Given as goal

abbrev pub invariant-loop-number : goal.invariant-loop-number
invariant-loop-number l = record {
  within : l.number ≤ length l.actors;
  so_far : has_active l.filter l.actors l.activations ≡ has_active l.filter (drop l.number l.actors) (drop l.number l.activations);
}

abbrev pub decreases-loop-number : goal.decreases-loop-number
decreases-loop-number l = length l.actors - l.number
