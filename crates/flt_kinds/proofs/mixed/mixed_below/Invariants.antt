use Rattle.std.proofs.Common.{◌≡◌}
use Rattle.flt_kinds.specs.Deciding.{mixed_below}
use Rattle.flt_kinds.proofs.mixed.mixed_below.Given as goal

abbrev pub invariant-loop-point : goal.invariant-loop-point
invariant-loop-point l = l.found ≡ mixed_below l.graph l.setters.streams.now l.setters.instances.now l.callback l.point
