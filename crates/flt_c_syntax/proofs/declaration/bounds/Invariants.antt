use Rattle.std.proofs.Common.{◌≡◌, ◌-◌}
use Rattle.flt_c_syntax.specs.Statement.{bounds, bounds_from}
use Rattle.flt_c_syntax.proofs.declaration.bounds.Given as goal

abbrev pub invariant-loop-turn : goal.invariant-loop-turn
invariant-loop-turn l = bounds l.fn.tokens.rest.now ≡ bounds_from (l._turn-end - l._turn) l.tokens.rest.now
