use Rattle.std.proofs.Common.{◌≡◌}
use Rattle.flt_kinds.specs.Deciding.{needed_in}
use Rattle.flt_kinds.proofs.mixed.needed_in.Given as goal

abbrev pub invariant-loop-callback : goal.invariant-loop-callback
invariant-loop-callback l = l.out.items ≡ needed_in l.graph l.instances l.callback
