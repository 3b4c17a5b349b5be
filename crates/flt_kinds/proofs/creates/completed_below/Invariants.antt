use Rattle.std.proofs.Common.{◌≡◌}
use Rattle.flt_kinds.specs.Creates.{completed_below}
use Rattle.flt_kinds.proofs.creates.completed_below.Given as goal

abbrev pub invariant-loop-point : goal.invariant-loop-point
invariant-loop-point l = l.found ≡ completed_below l.graph l.callback l.point
