use Rattle.std.proofs.Common.{◌≡◌}
use Rattle.flt_explain_waits.specs.Waiting.{last_holder}
use Rattle.flt_explain_waits.proofs.waits.last_holder.Given as goal

abbrev pub invariant-loop-b : goal.invariant-loop-b
invariant-loop-b l = l.last ≡ last_holder l.world l.a l.lock l.b
