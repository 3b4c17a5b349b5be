use Rattle.std.proofs.Common.{◌≡◌}
use Rattle.flt_kinds.specs.Creates.{completed_in}
use Rattle.flt_kinds.proofs.creates.completed_in.Given as goal

abbrev pub invariant-loop-callback : goal.invariant-loop-callback
invariant-loop-callback l = l.found ≡ completed_in l.graph l.callback
