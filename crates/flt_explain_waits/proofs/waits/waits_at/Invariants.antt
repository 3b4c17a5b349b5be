use Rattle.std.proofs.Common.{◌≡◌}
use Rattle.flt_explain_waits.specs.Waiting.{waits_at}
use Rattle.flt_explain_waits.proofs.waits.waits_at.Given as goal

abbrev pub invariant-loop-a : goal.invariant-loop-a
invariant-loop-a l = (l.world ≡ l.fn.world) × (l.waits.items ≡ waits_at l.fn.world l.a)
