use Rattle.std.proofs.Common.{◌≡◌, Some}
use Rattle.flt_replay_steps.specs.Unseen.{unseen}
use Rattle.flt_explain_waits.proofs.settling.settle.Given as goal

abbrev pub invariant-loop-made : goal.invariant-loop-made
invariant-loop-made l = unseen l._made l.fn.world l.a ≡ Some l.world
