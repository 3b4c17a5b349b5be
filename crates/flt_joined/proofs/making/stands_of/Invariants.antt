use Rattle.std.proofs.Common.{◌≡◌, map, take}
use Rattle.flt_joined.specs.Texts.{stand_of}
use Rattle.flt_joined.proofs.making.stands_of.Given as goal

abbrev pub invariant-loop-line : goal.invariant-loop-line
invariant-loop-line l = l.stands.items ≡ map stand_of (take l.line-index l.lines)
