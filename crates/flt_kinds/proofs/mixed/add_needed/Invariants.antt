use Rattle.std.proofs.Common.{◌≡◌, ◌++◌}
use Rattle.flt_kinds.specs.Deciding.{needed_below}
use Rattle.flt_kinds.proofs.mixed.add_needed.Given as goal

abbrev pub invariant-loop-point : goal.invariant-loop-point
invariant-loop-point l = l.out.items ≡ l.fn.out.items ++ needed_below l.graph l.instances l.callback l.point
