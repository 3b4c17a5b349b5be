use Rattle.std.proofs.Common.{◌≡◌, ◌-◌}
use Rattle.flt_c_syntax.specs.Cursor.{many, many_from}
use Rattle.flt_c_syntax.specs.Expression.{prefix}
use Rattle.flt_c_syntax.proofs.expression.prefixes.Given as goal

abbrev pub invariant-loop-turn : goal.invariant-loop-turn
invariant-loop-turn l =
    many (prefix l.known) l.fn.tokens.rest.now ≡ many_from (prefix l.known) (l._turn-end - l._turn) l.found l.tokens.rest.now
