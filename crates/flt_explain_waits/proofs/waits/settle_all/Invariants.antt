use Rattle.flt_explain_waits.specs.Waiting.{AreSettled}
use Rattle.flt_explain_waits.proofs.waits.settle_all.Given as goal

abbrev pub invariant-loop-a : goal.invariant-loop-a
invariant-loop-a l = AreSettled l.fn.world l.a l.world
