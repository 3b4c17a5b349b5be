use Rattle.std.proofs.Common.{◌≡◌}
use Rattle.flt_kinds.specs.Deciding.{mixed_in}
use Rattle.flt_kinds.proofs.mixed.mixed_in.Given as goal

abbrev pub invariant-loop-callback : goal.invariant-loop-callback
invariant-loop-callback l = l.found ≡ mixed_in l.graph l.setters.streams.now l.setters.instances.now l.callback
