use Rattle.std.proofs.Common.{◌≡◌, drop}
use Rattle.std.specs.Prelude.{◌&&◌}
use Rattle.std.specs.List.{list_all}
use Rattle.flt_abs.specs.Sets.{is_possible}
use Rattle.flt_abs.proofs.state.are_possible.Given as goal

abbrev pub invariant-loop-index : goal.invariant-loop-index
invariant-loop-index l = (l.possible && list_all is_possible (drop l.index l.sets)) ≡ list_all is_possible l.sets
