use Rattle.std.proofs.Common.{◌≡◌, ◌++◌, take, drop}
use Rattle.std.specs.Prelude.{map}
use Rattle.flt_explain.specs.Sets.{or_all}
use Rattle.flt_explain.proofs.sets.fill.Given as goal

abbrev pub invariant-loop-index : goal.invariant-loop-index
invariant-loop-index l = take l.index l.sets ++ map or_all (drop l.index l.sets) ≡ map or_all l.initial.sets
