use Rattle.std.proofs.Common.{◌≡◌, map, take}
use Rattle.flt_explain_ways.specs.NoWay.{is_checked}
use Rattle.flt_explain_ways.proofs.cover.checked.Given as goal

abbrev pub invariant-loop-cover : goal.invariant-loop-cover
invariant-loop-cover l = l.all ≡ map (is_checked l.graph) (take l.cover-index l.covers)
