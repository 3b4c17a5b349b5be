use Rattle.std.proofs.Common.{◌≡◌, drop}
use Rattle.flt_c.specs.InPlace.{crowded}
use Rattle.flt_c.proofs.laying.crowded.Given as goal

abbrev pub invariant-loop-line : goal.invariant-loop-line
invariant-loop-line l = crowded l.last (drop l.line-index l.lines) ≡ crowded 0 l.lines
