use Rattle.std.proofs.Common.{◌≡◌, ◌+◌, ◌-◌, ◌*◌}
use Rattle.flt_c_macros.specs.Conditions.{ranked, operand, more}
use Rattle.flt_c_macros.proofs.condition.+condition.Given as goal

abbrev pub decreases-operand : goal.decreases-operand
decreases-operand l = 6 * l.depth

abbrev pub decreases-ranked : goal.decreases-ranked
decreases-ranked l = 6 * l.depth + l.rank + 1

abbrev pub invariant-ranked-loop-turn : goal.invariant-ranked-loop-turn
invariant-ranked-loop-turn l =
    ranked (operand l.spellings l.macros l.depth) l.rank l.fn.line.rest.now
    ≡ more (ranked (operand l.spellings l.macros l.depth) (l.rank - 1)) (l.rank - 1) (l._turn-end - l._turn) l.left l.line.rest.now
