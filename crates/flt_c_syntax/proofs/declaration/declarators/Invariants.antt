use Rattle.std.proofs.Common.{◌≡◌, ◌-◌}
use Rattle.flt_c_syntax.specs.Cursor.{many, many_from}
use Rattle.flt_c_syntax.specs.Statement.{next_declarator}
use Rattle.flt_c_syntax.proofs.declaration.declarators.Given as goal

abbrev pub invariant-loop-turn : goal.invariant-loop-turn
invariant-loop-turn l =
    let step = next_declarator l.known l.depth in
    many step l.fn.tokens.rest.now ≡ many_from step (l._turn-end - l._turn) l.found l.tokens.rest.now
