use Rattle.std.proofs.Common.{◌≡◌, drop}
use Rattle.std.specs.Prelude.{◌&&◌}
use Rattle.flt_abs.specs.State.{all_within}
use Rattle.flt_abs.proofs.state.all_within.Given as goal

abbrev pub invariant-loop-index : goal.invariant-loop-index
invariant-loop-index l = (l.within && all_within (drop l.index l.a) (drop l.index l.b)) ≡ all_within l.a l.b
