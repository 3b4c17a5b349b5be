use Rattle.std.proofs.Common.{◌≡◌}
use Rattle.flt_replay_world.specs.Opening.{opened}
use Rattle.flt_replay_world.proofs.world.World.opening.Given as goal

abbrev pub invariant-loop-number : goal.invariant-loop-number
invariant-loop-number l = l.world ≡ opened l.number
